pub mod Edits
pub mod Fixture
pub mod PrivateFixtureExits
pub mod Number
pub mod Places
pub mod PrivateFixture
pub mod PrivateOutcome
pub mod Script
