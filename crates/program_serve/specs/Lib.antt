pub mod Requests
pub mod Replies
pub mod Answers
pub mod Serving
