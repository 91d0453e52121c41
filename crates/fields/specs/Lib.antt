-- Binary fields: definitions, the laws that are proved of them, and words over them place by place.
pub mod Lists
pub mod Elements
pub mod Field
pub mod Places
-- need not be believed
pub mod Steps
