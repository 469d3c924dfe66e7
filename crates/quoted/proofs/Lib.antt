pub mod EscapeFacts
