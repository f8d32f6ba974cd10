-- The definitions: sets of literals, programs, the model, its rounds, answer sets, the pruned trees, reach, groups and contradictory names.
pub mod Sets
pub mod Program
pub mod Model
pub mod Rounds
pub mod AnswerSets
pub mod Trees
pub mod Reach
pub mod Groups
pub mod ContradictoryNames
