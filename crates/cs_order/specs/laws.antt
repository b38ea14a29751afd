pub mod Lists
pub mod Digests
pub mod SoloLaw
