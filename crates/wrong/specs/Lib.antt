-- What the theorems of wrong answers speak of besides the promises: one input with a wrong answer to it.
pub mod InnerExample
