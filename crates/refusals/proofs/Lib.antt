-- Why an answer is known by what it says.
pub mod Said
