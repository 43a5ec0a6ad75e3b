pub mod CaseA
