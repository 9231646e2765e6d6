-- The record at a place of some bytes, as the code reads it from what is left of them there: it lies within the bytes, and the next begins behind it.
use Prim.Native.Nat.{ℕ, ◌+◌, ◌-◌, ◌≤◌}
use mathlib.Core.Path.{◌≡◌, sym, ap, ◌∙◌}
use mathlib.Core.List.{List}
use lib.ListN.{length, take, drop}
use lib.Seq.{drop-drop}
use Rattle.record.specs.Record.{Record}
use Rattle.record.specs.Layout.{size_of, record_of}
use Rattle.sheet.proofs.WalkLaws.{rest_is, room_of}

module _ (part : List ℕ) (place : ℕ) (r : Record) (e : r ≡ record_of (take (length part - place) (drop place part))) where
  pub read_here : record_of (drop place part) ≡ r
  read_here = sym (e ∙ ap record_of (rest_is part place))

  -- its kind is told, with this size
  module _ (kind : Record) (size : ℕ) (f : r ≡ kind) (g : size ≡ size_of kind) where
    size_here : size ≡ size_of (record_of (drop place part))
    size_here = g ∙ ap size_of (sym (read_here ∙ f))

    pub room_here : place ≤ length part → place + size ≤ length part
    room_here h = rw size_here (room_of part place h)

    pub rest_here : drop (place + size) part ≡ drop (size_of (record_of (drop place part))) (drop place part)
    rest_here = sym (drop-drop size place part) ∙ ap (λ (i : ℕ). drop i (drop place part)) size_here
