-- What trying one instant leaves as it is: by cases on the two tests, an instant that is no tighter than the tightest so far changes nothing.
use Prim.Native.Nat.{ℕ, ◌+◌, ◌≤◌, ◌<◌}
use mathlib.Core.Path.{◌≡◌, refl}
use mathlib.Core.Bool.{Bool, true, false, cond, false≢true}
use lib.Dec.{ltb}
use borrow.Author.Tests.{lt-ltb, le-ltb}
use native.Mathlib.Decide.{dec_le}
use native.Mathlib.Nat.{lt_of_not-le}
use native.Mathlib.Omega.{arith}
use Rattle.std.specs.Prelude.{Option, Some, None, is_some}
use Rattle.budget.specs.declared.quantity.Time.{Time}
use Rattle.judge.specs.declared.margin.Tight.{Tight}
use Rattle.judge.specs.inner.Tried.{sooner_short, tighter_of}

-- the tightest so far stays so: no first short instant is found here that was not found before
pub short_stays : (short : Option Time) (at : ℕ) (best here : Tight) → (best.units < best.demand → is_some short ≡ true)
    → best.units + here.demand ≤ here.units + best.demand → sooner_short short at here.units here.demand ≡ short
unfolding sooner_short
short_stays (Some s) at best here told h = by_test (ltb here.units here.demand)
  where
    by_test : (b : Bool) → cond b (Some s) (Some s) ≡ Some s
    by_test true = refl
    by_test false = refl
short_stays None at best here told h = split (dec_le best.demand best.units)
  where
    split : Dec (best.demand ≤ best.units) → cond {A = Option Time} (ltb here.units here.demand) (Some (record { 0 = at })) None ≡ None
    split (yes g) = rw (le-ltb here.units here.demand (omega (arith, g, h))) refl
    split (no g) = absurd (false≢true (told (lt_of_not-le g)))

pub tight_stays : (best here : Tight) → best.units + here.demand ≤ here.units + best.demand → tighter_of (Some best) here ≡ best
unfolding tighter_of
tight_stays best here h = rw (le-ltb _ _ h) refl

pub tight_moves : (best here : Tight) → here.units + best.demand < best.units + here.demand → tighter_of (Some best) here ≡ here
unfolding tighter_of
tight_moves best here h = rw (lt-ltb _ _ h) refl

-- a short instant that is tried is the first one, or one was found before
pub short_told : (short : Option Time) (at units asked : ℕ) → units < asked → is_some (sooner_short short at units asked) ≡ true
unfolding sooner_short
short_told (Some s) at units asked h = rw (lt-ltb units asked h) refl
short_told None at units asked h = rw (lt-ltb units asked h) refl
