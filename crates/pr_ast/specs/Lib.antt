pub mod Names
pub mod Tree
pub mod Reach
pub mod Number
pub mod NumberTable
pub mod Bytes
pub mod Tokens
pub mod Words
pub mod Signs
pub mod SignAt
pub mod Lexed
pub mod private
pub use Rattle.pr_time.specs.pr_forms as pr_forms
pub use Rattle.pr_labels.specs.pr_words as pr_words
pub use Rattle.pr_num.specs as pr_num
pub use Rattle.pr_time.specs as pr_time
pub use Rattle.pr_labels.specs as pr_labels
