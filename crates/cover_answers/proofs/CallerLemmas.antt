-- The lemmas of this crate that other crates cite.
pub use Rattle.cover_answers.proofs.LineTokens.{AreShort, edges_read, end_read, list_tokens, marked_tokens, number_token, opening_read, word_line}
pub use Rattle.cover_answers.proofs.LineTokens.{IsShort, number_bytes, list_no_feed, number_no_feed, HasLines, HasNoFeed, lines_at, more_lines, no_feed}
pub use Rattle.cover_answers.proofs.LineTokens.{no_line, one_line}
pub use Rattle.cover_answers.proofs.OneCovering.{one_covering}
