mod FailureFacts
