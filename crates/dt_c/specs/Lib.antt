pub mod Handle
pub mod CStructs
pub mod Calls
pub mod Networks
pub mod ServiceStructs
pub mod Users
pub mod Serving
pub mod Watching
