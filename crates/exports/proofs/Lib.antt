-- Computed rows of the replies, and their laws: numbers that a reply has say everything.
pub mod HeapReplies
pub mod ImageReplies
pub mod ComparisonRows
pub mod ComparisonReplies
pub mod ReportReplies
pub mod StoreReplies
pub mod QueueReplies
pub mod ReplayReplies
