-- The statement about service: from the topmost component's trace each step down hands on a supply (Level.antt), filled before the child's first
-- release (Filled.antt).
use Prim.Native.Nat.{ℕ, ◌<◌}
use mathlib.Core.Bool.{true}
use mathlib.Core.List.{List}
use mathlib.Core.Path.{◌≡◌, refl}
use lib.ListN.{length}
use Rattle.budget.specs.Interface.{Π}
use Rattle.budget.proofs.Valid.{valid_interface_lem}
use Rattle.trace.specs.Legal.{Legal, zeros_and_ones}
use Rattle.nesting.specs.Behaviour.{Admissible, Behaviour}
use Rattle.nesting.specs.Service.{Served, ServiceBelow, Sound, trace_of}
use Rattle.nesting.specs.Tree.{Below, Child, Tree, down, top}
use Rattle.nesting.proofs.Filled.{Supply, fill}
use Rattle.nesting.proofs.Level.{Known, child_served, no_miss}

module _ (tree : Tree) (topmost : ℕ) (sound : Sound tree topmost) (b : Behaviour) (admissible : Admissible tree topmost b) where
  component : (c : ℕ) → Below tree topmost c → Known tree b c
  component c way =
      record {
        tasks = sound.tasks c way;
        interface = sound.interface c way;
        accepted = sound.accepted c way;
        arrival = admissible.arrival c way;
        own = admissible.own c way;
        children = λ k f child. admissible.children c k f way child;
        capacity = λ k f child. admissible.capacity c k f way child;
      }

  module _ (o : ℕ) (s : List ℕ) (below : o < Π (tree.interface topmost)) (bits : zeros_and_ones s ≡ true) (legal : Legal (tree.interface topmost) o s) where
    -- a component's trace has as many slots as the topmost one's, and is a supply
    abbrev Supplied : (c : ℕ) → List ℕ → Type 0
    Supplied c trace = (length trace ≡ length s) × Supply (tree.interface c) (b.first c) (length s) trace

    one_down : (c k : ℕ) (way : Below tree topmost c) (child : Child tree c k) → Supplied c (trace_of tree b s way)
        → Served (tree.interface k) (b.first k) (length s) (trace_of tree b s (down way child))
    unfolding trace_of
    one_down c k way child supplied = child_served tree b c (component c way) (length s) (trace_of tree b s way) supplied.1 k child

    supplied : (c : ℕ) (way : Below tree topmost c) → Supplied c (trace_of tree b s way)
    unfolding trace_of
    supplied c top = (refl, record { filled = s; offset = o; below = below; slots = refl; bits = bits; legal = legal; same = λ m l h. refl })
    supplied c (down {c = above} way child) =
        let served = one_down above c way child (supplied above way) in
        (served.slots, fill (tree.interface c) (valid_interface_lem _ (sound.interface c (down way child))) (b.first c) (length s) _ served)

pub service_below : ServiceBelow
service_below tree topmost sound b admissible o s below bits legal =
    record {
      no_miss = λ c way.
          let up = supplied tree topmost sound b admissible o s below bits legal c way in
          no_miss tree b c (component tree topmost sound b admissible c way) (length s) (trace_of tree b s way) up.1 up.0;
      served = λ c k way child.
          one_down tree topmost sound b admissible o s below bits legal c k way child (supplied tree topmost sound b admissible o s below bits legal c way);
    }
