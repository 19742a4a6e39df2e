pub mod MemoryFacts
pub mod RunFacts
pub mod StoreFacts
pub mod TableFacts
pub mod StackFacts
pub mod CallFacts
