mod SameAnswers
mod Chosen
mod Region
mod FlatteningLaws
mod Found
mod MeetingLaws
mod NumberLaws
