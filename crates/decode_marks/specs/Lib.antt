pub mod Next
