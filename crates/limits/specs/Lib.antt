pub mod Count
pub mod Tests
