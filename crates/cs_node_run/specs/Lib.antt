pub mod Genesis
