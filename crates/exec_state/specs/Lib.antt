pub mod samples
pub mod good_form
