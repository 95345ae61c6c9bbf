pub mod TookSteps
