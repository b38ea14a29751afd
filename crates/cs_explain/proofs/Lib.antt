pub mod Declarings
pub mod FrontLaws
pub mod WantedLaws
pub mod StandingLaws
