-- What holds of every row, whatever its widths: it has as many bytes as its widths together, its bytes are read back as its values, the bytes that stand in it are those of the values read, and these fit.
use Prim.Native.Nat.{ℕ, ◌+◌, ◌^◌, ◌≤◌, ◌<◌}
use mathlib.Core.Path.{◌≡◌, refl, sym, ap, ap₂, ◌∙◌}
use mathlib.Core.List.{List, [], ◌∷◌, ◌++◌, append_assoc}
use native.Mathlib.Nat.{add_assoc, add-zero}
use native.Mathlib.Omega.{arith}
use lib.ListN.{length, drop, length-append}
use Rattle.record.specs.Field.{encode, field, Bytes}
use Rattle.record.specs.Row.{row_length, row_bytes, values_at}
use Rattle.record.proofs.FieldLaws.{length_encode, decode_encode, field_past, field_bytes, field_below}

-- as many values as widths, each below 256 to its width
abbrev pub Fit : List ℕ → List ℕ → Type 0
Fit [] [] = Unit {0}
Fit [] (v ∷ vs) = ⊥
Fit (w ∷ ws) [] = ⊥
Fit (w ∷ ws) (v ∷ vs) = (v < 256 ^ w) × Fit ws vs

pub row_length_lem : (ws vs : List ℕ) → length (row_bytes ws vs) ≡ row_length ws
row_length_lem [] vs = refl
row_length_lem (w ∷ ws) [] = length-append (encode w 0) (row_bytes ws []) ∙ ap₂ ◌+◌ (length_encode w 0) (row_length_lem ws [])
row_length_lem (w ∷ ws) (v ∷ vs) = length-append (encode w v) (row_bytes ws vs) ∙ ap₂ ◌+◌ (length_encode w v) (row_length_lem ws vs)

-- behind any other bytes
pub values_back : (front ws vs rest : List ℕ) → Fit ws vs → values_at ws (front ++ (row_bytes ws vs ++ rest)) (length front) ≡ vs
values_back front [] [] rest f = refl
values_back front [] (v ∷ vs) rest f = elim f [ ]
values_back front (w ∷ ws) [] rest f = elim f [ ]
values_back front (w ∷ ws) (v ∷ vs) rest f =
    let more = row_bytes ws vs ++ rest in
    let here : field (front ++ (encode w v ++ more)) (length front) w ≡ v =
    ap (λ (i : ℕ). field (front ++ (encode w v ++ more)) i w) (sym (add-zero (length front)))
    ∙ (field_past front (encode w v ++ more) 0 w ∙ decode_encode w v more f.0) in
    let wide : length (front ++ encode w v) ≡ length front + w = length-append front (encode w v) ∙ ap (λ (n : ℕ). length front + n) (length_encode w v) in
    rw append_assoc
    (ap₂ ◌∷◌ here
    (ap₂ (values_at ws) (sym (append_assoc front (encode w v) more)) (sym wide)
    ∙ values_back (front ++ encode w v) ws vs rest f.1))

pub bytes_back : (ws s : List ℕ) (at : ℕ) → Bytes s → at + row_length ws ≤ length s → drop at s ≡ row_bytes ws (values_at ws s at) ++ drop (at + row_length ws) s
bytes_back [] s at b h = rw add-zero
bytes_back (w ∷ ws) s at b h =
    field_bytes w s at b (omega arith)
    ∙ (ap (λ (l : List ℕ). encode w (field s at w) ++ l)
    (bytes_back ws s (at + w) b (omega arith) ∙ rw (add_assoc))
    ∙ sym (append_assoc (encode w (field s at w)) (row_bytes ws (values_at ws s (at + w))) (drop (at + (w + row_length ws)) s)))

pub values_fit : (ws s : List ℕ) (at : ℕ) → Bytes s → Fit ws (values_at ws s at)
values_fit [] s at b = tt
values_fit (w ∷ ws) s at b = (field_below w s at b, values_fit ws s (at + w) b)
