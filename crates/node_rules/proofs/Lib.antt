pub mod Chosen
mod RaiseLaws
pub mod SearchLaws
pub mod ChoosingLaws
pub mod LowestLaws
pub mod PreparedLaws
mod ArmLaws
