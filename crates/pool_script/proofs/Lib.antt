mod SortingLaws
mod StandingLaws
mod OpeningLaws
mod DealingLaws
mod ErrandLaws
mod RunningLaws
mod Crossing
