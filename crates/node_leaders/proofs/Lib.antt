pub mod Choice
pub mod HashLaws
pub mod LeaderLaws
pub mod Near
pub mod Order
pub mod Room
