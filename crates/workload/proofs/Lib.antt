pub mod SmallText
