-- The laws that each call of the desk owes, and the theorems on lists of calls.
pub mod Laws
pub mod LoadLaws
pub mod LessonLaws
pub mod Left
pub mod Demand1
pub mod Demand2
pub mod Demand3
pub mod Answers
pub mod Sheets
pub mod Exists
pub mod AnswerSets
pub mod Cases
pub mod Sizing
pub mod Parted
pub mod Spelling
pub mod Rounds
pub mod Reached
