-- How the lines are read from the tokens that are left.
use Rattle.std.specs.Prelude.{◌≡◌, ◌≤◌, pos, ◌+◌, ◌==◌, false, ◌||◌, ◌&&◌, nat_lt, is_none, List, [], ◌∷◌, None, if◌then◌else◌}
use Rattle.cgd_lex.specs.Tokens.{TokenView}
use Rattle.cgd_lex.specs.Words.{is_quoted, name_in}
use Rattle.cgd_read.specs.Spelling.{IsSmallPart}
use Rattle.cgd_read.specs.Values.{part_of}
use Rattle.cgd_read.specs.Lines.{is_strange, part_or_zero, FieldsView, LineView}
use Rattle.cgd_read.specs.Faults.{is_end}

-- each part of the shift is within the limits
pub record IsSmallFields (fields : FieldsView) : Type 0 where
  pub x : IsSmallPart fields.x
  pub y : IsSmallPart fields.y
  pub z : IsSmallPart fields.z

-- a row without a third part has 0 there
abbrev pub IsFlat : FieldsView → Type 0
IsFlat fields = fields.size ≤ 4 → fields.z ≡ pos 0

-- what no fields say
abbrev pub no_fields : FieldsView
no_fields = record { size = 0; name = None; has_strange = false; has_late_quote = false; has_far_part = false; u = []; v = []; x = pos 0; y = pos 0; z = pos 0 }

-- one more field after the second: a part of the shift at its place, read as a number
abbrev pub with_part : FieldsView → TokenView → FieldsView
with_part fields token = record {
  size = fields.size;
  name = None;
  has_strange = fields.has_strange;
  has_late_quote = fields.has_late_quote || is_quoted token.kind;
  has_far_part = fields.has_far_part || is_none (part_of token.text);
  u = fields.u;
  v = fields.v;
  x = if fields.size == 2 then part_or_zero (part_of token.text) else fields.x;
  y = if fields.size == 3 then part_or_zero (part_of token.text) else fields.y;
  z = if fields.size == 4 then part_or_zero (part_of token.text) else fields.z;
}

-- one more field, read from the left
abbrev pub with_field : FieldsView → TokenView → FieldsView
with_field fields token = record {
  size = fields.size + 1;
  name = if fields.size == 0 then name_in token else None;
  has_strange = fields.has_strange || is_strange token.kind;
  has_late_quote = fields.has_late_quote || (nat_lt 1 fields.size && is_quoted token.kind);
  has_far_part = fields.has_far_part || (nat_lt 1 fields.size && is_none (part_of token.text));
  u = if fields.size == 0 then token.text else fields.u;
  v = if fields.size == 1 then token.text else fields.v;
  x = if fields.size == 2 then part_or_zero (part_of token.text) else fields.x;
  y = if fields.size == 3 then part_or_zero (part_of token.text) else fields.y;
  z = if fields.size == 4 then part_or_zero (part_of token.text) else fields.z;
}

-- the lines after the next END
abbrev pub after_end : List LineView → List LineView
after_end [] = []
after_end (line ∷ lines) = if is_end line.kind then lines else after_end lines
