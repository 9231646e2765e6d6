-- The bytes of what a host is answered on one component (RULES 14), little-endian as in a sheet.
use Rattle.std.specs.Prelude.{ℕ, List, [], ◌∷◌}
use Rattle.record.specs.declared.reply.Reply.{Reply}
use Rattle.record.specs.Layout.{framed}

abbrev pub reply_row : List ℕ
reply_row = 2 ∷ 2 ∷ 2 ∷ 2 ∷ 4 ∷ 4 ∷ 4 ∷ 4 ∷ []

-- kind 16: component number, code, capacity, first short instant, margin as its two's complement, the margin's instant
unfoldable pub reply_bytes : Reply → List ℕ
reply_bytes r = framed 16 reply_row (r.number ∷ r.code ∷ r.capacity.0 ∷ r.instant.0 ∷ r.margin ∷ r.stands.0 ∷ [])
