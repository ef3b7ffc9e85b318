pub mod Wire
pub mod RoundTrip
