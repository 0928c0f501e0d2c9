-- What the numbers of a reply mean, topic by topic.
pub mod HeapReplies
pub mod ImageReplies
pub mod ComparisonReplies
pub mod ReportReplies
pub mod StoreReplies
pub mod QueueReplies
pub mod ReplayReplies
