mod NodeLaws
mod EdgeLaws
mod QuoteLaws
