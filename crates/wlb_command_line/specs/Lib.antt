pub mod CommandWords
