pub mod EdgeClass
