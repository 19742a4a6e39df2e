pub mod ArithmeticFacts
