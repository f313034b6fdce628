pub mod FaultLaws
pub mod GrowthLaws
pub mod LoopLaws
pub mod AnswerLaws
pub mod TextImage
