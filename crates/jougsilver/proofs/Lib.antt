pub mod AllLaws
pub mod AnswerLaws
pub mod EntryLaws
pub mod NoneIsZero
