-- Valid components in rising number are walked to the record that ends them, and with each count of components the walk is held behind their bytes: record by record, along the walk.
use Prim.Native.Nat.{ℕ, zero, suc, ◌+◌, ◌-◌, ◌^◌, ◌≤◌, ◌<◌}
use mathlib.Core.Path.{◌≡◌, refl, sym, ap, ◌∙◌}
use mathlib.Core.Bool.{true, false, ◌&&◌}
use mathlib.Core.List.{List, [], ◌∷◌, ◌++◌, append_assoc}
use native.Mathlib.Omega.{arith}
use lib.ListN.{length, get_or, drop, length-append}
use lib.Seq.{drop_at, drop-drop, length-take-le}
use lib.Dec.{ltb, eqb}
use borrow.Author.Tests.{lt-leb, lt-ltb, le-ltb, ne_eqb}
use Rattle.budget.specs.declared.component.Capacity.{Capacity}
use Rattle.budget.specs.declared.component.Component.{Component}
use Rattle.budget.specs.declared.task.Task.{Task}
use Rattle.budget.specs.Component.{units_of, interface_of, refused}
use Rattle.budget.specs.Interface.{interface, interface_refusal, valid_interface}
use Rattle.budget.specs.Task.{T, C, D, J, task_refusal, valid_task, valid_tasks, tasks_of}
use Rattle.budget.proofs.Ranges.{in_range}
use Rattle.budget.proofs.Valid.{valid_task_lem, valid_interface_lem, both}
use Rattle.record.specs.declared.layout.Pair.{Pair}
use Rattle.record.specs.Record.{Record, ComponentRecord, PairRecord, EndRecord}
use Rattle.record.specs.Layout.{head_bytes, task_bytes, size_of, record_of}
use Rattle.record.proofs.RoundRecord.{head, head_back, task_back}
use Rattle.sheet.specs.Judging.{State}
use Rattle.sheet.specs.Judging.{refuse, ended, head_refusal, form_refusal, standing_refusal, record_refusal, after_head, after_task, after, judged}
use Rattle.sheet.specs.Walk.{step, walk, held}
use Rattle.sheet.proofs.JudgingLaws.{orderly}
use Rattle.sheet.proofs.WalkLaws.{walk_on, walk_stopped, held_on, held_here, held_cases, held_stopped, step_advances}
use Rattle.transfer.specs.RoundTrip.{components_bytes, Sound, Rising}
use Rattle.transfer.specs.Writing.{tasks_bytes, component_bytes}
use Rattle.transfer.proofs.StoreLaws.{head_length, task_length}

-- a walk that has come to a place, with so many components, the lowest number allowed next and so many tasks of the last component
abbrev pub on : ℕ → ℕ → ℕ → ℕ → State
on place count lowest tasks = record { going = true; refusal = 0; place = place; count = count; lowest = lowest; tasks = tasks }

-- a component record is as long as its bytes
pub head_size_lem : (number period : ℕ) (c : Capacity) (deadline : ℕ) → size_of (ComponentRecord (head number period c deadline)) ≡ length (head_bytes number period c deadline)
unfolding size_of
head_size_lem number period c deadline = sym (head_length number period c deadline)

-- ---- one record of a sheet

-- a record that ends the components: the walk stops there without refusal
abbrev pub Stops : Record → Type 0
Stops r = (st : State) → judged st r ≡ ended st

pub pair_stops : (p : Pair) → Stops (PairRecord p)
unfolding judged record_refusal after
pair_stops p st = refl

pub end_stops : (n : ℕ) → Stops (EndRecord n)
unfolding judged record_refusal after
end_stops n st = refl

-- a J that is stated only where it is above 0 is not 0
above : (n : ℕ) → (ltb 0 n && eqb n 0) ≡ false
above zero = refl
above (suc n) = rw (lt-ltb 0 (suc n) (omega arith), ne_eqb (suc n) 0 (λ z. omega (arith, z)))

formed_taken : (k : Task) → valid_task k ≡ true → form_refusal k (ltb 0 (J k)) ≡ 0
unfolding form_refusal task_refusal
formed_taken k v = rw (above (J k), v)

module _ (s : List ℕ) where
  -- what stands behind a row of bytes that begins at a place
  pub behind : (p : ℕ) (a tail : List ℕ) → drop p s ≡ a ++ tail → drop (p + length a) s ≡ tail
  behind p a tail e = sym (drop-drop (length a) p s) ∙ (ap (drop (length a)) e ∙ drop_at a tail (length a) refl)

  task_step : (p count lowest tasks : ℕ) (k : Task) (tail : List ℕ) → 1 ≤ count → tasks < 64 → valid_task k ≡ true → drop p s ≡ task_bytes k ++ tail → step judged s (on p count lowest tasks) ≡ on (p + length (task_bytes k)) count lowest (tasks + 1)
  unfolding step judged record_refusal standing_refusal after after_task
  task_step p count lowest tasks k tail one few v e =
      let w = valid_task_lem k v in
      let t : T k < 256 ^ 4 = omega arith in
      let c : C k < 256 ^ 4 = omega arith in
      let d : D k < 256 ^ 4 = omega arith in
      let j : J k < 256 ^ 4 = omega arith in
      rw (e, task_back tail k t c d j, ne_eqb count 0 (omega arith), lt-leb 64 tasks few, formed_taken k v)
      (ap (λ (n : ℕ). on (p + n) count lowest (tasks + 1)) (sym (task_length k)))

  head_step : (p count lowest tasks number period : ℕ) (c : Capacity) (deadline : ℕ) (tail : List ℕ) → count < 256 → lowest ≤ number → number < 65_536 → valid_interface (interface period (units_of c) deadline) ≡ true
      → drop p s ≡ head_bytes number period c deadline ++ tail → step judged s (on p count lowest tasks) ≡ on (p + length (head_bytes number period c deadline)) (count + 1) (number + 1) 0
  unfolding step judged record_refusal head_refusal after after_head interface_refusal
  head_step p count lowest tasks number period c deadline tail few low fits v e =
      let w = valid_interface_lem (interface period (units_of c) deadline) v in
      let g : period < 256 ^ 4 = omega arith in
      let h : units_of c < 256 ^ 4 = omega arith in
      let i : deadline < 256 ^ 4 = omega arith in
      rw (e, head_back tail number period c deadline fits g h i, lt-leb 256 count few, le-ltb number lowest low, v)
      (ap (λ (n : ℕ). on (p + n) (count + 1) (number + 1) 0) (head_size_lem number period c deadline))

  stop_step : (st : State) (tail : List ℕ) → drop st.place s ≡ tail → Stops (record_of tail) → step judged s st ≡ ended st
  unfolding step
  stop_step st tail e o = rw e (o st)

-- ---- along the walk: with any number of steps that is enough, it ends so from a state on, and holds that state with k components, but for whether it goes on

module _ (s : List ℕ) where
  abbrev Enough : State → ℕ → Type 0
  Enough st f = length s - st.place < f

  abbrev Ends : State → State → Type 0
  Ends st last = (f : ℕ) → Enough st f → walk judged f s st ≡ last

  abbrev Holds : ℕ → State → State → Type 0
  Holds k st x = (f : ℕ) → Enough st f → ended (held judged f s k st) ≡ ended x

  step_ends : (st next last : State) → st.going ≡ true → step judged s st ≡ next → st.place < next.place → next.place ≤ length s → Ends next last → (f : ℕ) → Enough st f → walk judged f s st ≡ last
  step_ends st next last g e a b n zero h = absurd (omega arith)
  step_ends st next last g e a b n (suc f) h = walk_on judged f s st g ∙ rw e (n f (omega arith))

  last_ends : (st : State) → st.going ≡ true → step judged s st ≡ ended st → (f : ℕ) → Enough st f → walk judged f s st ≡ ended st
  unfolding ended refuse
  last_ends st g e zero h = absurd (omega arith)
  last_ends st g e (suc f) h = walk_on judged f s st g ∙ rw e (walk_stopped judged f s (ended st) refl)

  step_holds : (k : ℕ) (st next x : State) → st.going ≡ true → step judged s st ≡ next → st.place < next.place → next.place ≤ length s → next.count ≤ k → Holds k next x → (f : ℕ) → Enough st f → ended (held judged f s k st) ≡ ended x
  step_holds k st next x g e a b c n zero h = absurd (omega arith)
  step_holds k st next x g e a b c n (suc f) h = ap ended (held_on judged f s st k g (rw e c)) ∙ rw e (n f (omega arith))

  -- a component record begins here, or the walk stops here
  first_holds : (k : ℕ) (st next : State) → st.going ≡ true → step judged s st ≡ next → k < next.count → (f : ℕ) → Enough st f → ended (held judged f s k st) ≡ ended st
  first_holds k st next g e c zero h = absurd (omega arith)
  first_holds k st next g e c (suc f) h = ap ended (held_here judged f s st k g (rw e c))

  stays : (f k : ℕ) (st : State) → ended (held judged f s k (ended st)) ≡ ended st
  unfolding ended refuse
  stays f k st = ap ended (held_stopped judged f s k (ended st) refl)

  last_holds : (k : ℕ) (st : State) → step judged s st ≡ ended st → (f : ℕ) → Enough st f → ended (held judged f s k st) ≡ ended st
  last_holds k st e zero h = absurd (omega arith)
  last_holds k st e (suc f) h = held_cases judged f s st k (λ (x : State). ended x ≡ ended st) refl (λ g l. rw e (stays f k st))

  -- from one state to another, by records that are taken
  record Comes (st next : State) : Type 0 where
    pub ends : (last : State) → Ends next last → Ends st last
    pub holds : (k : ℕ) (x : State) → next.count ≤ k → Holds k next x → Holds k st x
    pub counts : st.count ≤ next.count
    pub within : next.place ≤ length s

  comes_step : (st next : State) → st.place ≤ length s → st.going ≡ true → step judged s st ≡ next → next.going ≡ true → Comes st next
  comes_step st next h g e o =
      let a = step_advances judged orderly s st h in
      let b : next.place ≤ length s = rw e at a.within in
      let m : st.place < next.place = rw e at (a.goes (rw e o)) in
      record {
        ends = λ last n. step_ends st next last g e m b n;
        holds = λ k x c n. step_holds k st next x g e m b c n;
        counts = rw e at a.counts;
        within = b;
      }

  comes_on : (a b c : State) → Comes a b → Comes b c → Comes a c
  comes_on a b c v w =
      record {
        ends = λ last n. v.ends last (w.ends last n);
        holds = λ k x h n. v.holds k x (omega (arith, w.counts)) (w.holds k x h n);
        counts = omega (arith, v.counts, w.counts);
        within = w.within;
      }

  tasks_come : (ks : List Task) (p n l t : ℕ) (tail : List ℕ) → p ≤ length s → 1 ≤ n → t + length ks ≤ 64 → valid_tasks ks ≡ true → drop p s ≡ tasks_bytes ks ++ tail
      → Comes (on p n l t) (on (p + length (tasks_bytes ks)) n l (t + length ks))
  unfolding tasks_bytes valid_tasks
  tasks_come [] p n l t tail h one few v e =
      let a : p + 0 ≡ p = omega arith in
      let b : t + 0 ≡ t = omega arith in
      rw (a, b) (record { ends = λ last w. w; holds = λ k x c w. w; counts = omega arith; within = h })
  tasks_come (x ∷ ks) p n l t tail h one few v e =
      let valid = both (valid_task x) (valid_tasks ks) v in
      let rest : List ℕ = tasks_bytes ks ++ tail in
      let f : drop p s ≡ task_bytes x ++ rest = e ∙ append_assoc (task_bytes x) (tasks_bytes ks) tail in
      let q : ℕ = p + length (task_bytes x) in
      let m = length-append (task_bytes x) (tasks_bytes ks) in
      let a : p + length (task_bytes x ++ tasks_bytes ks) ≡ q + length (tasks_bytes ks) = omega arith in
      let b : t + suc (length ks) ≡ t + 1 + length ks = omega arith in
      let c = comes_step (on p n l t) (on q n l (t + 1)) h refl (task_step s p n l t x rest one (omega arith) valid.0 f) refl in
      rw (a, b)
      (comes_on (on p n l t) (on q n l (t + 1)) (on (q + length (tasks_bytes ks)) n l (t + 1 + length ks)) c
      (tasks_come ks q n l (t + 1) tail c.within one (omega arith) valid.1 (behind s p (task_bytes x) rest f)))

-- ---- one component

pub tasks_full : (c : Component) → Sound c → length (tasks_of c.table) ≡ c.table.count
unfolding tasks_of
tasks_full c sound =
    let range = in_range c sound.ranges in
    length-take-le c.table.count c.table.tasks (omega (arith, range.count, sound.places))

pub few_tasks : (c : Component) → Sound c → length (tasks_of c.table) ≤ 64
few_tasks c sound = let f = tasks_full c sound in let range = in_range c sound.ranges in omega (arith, f, range.count)

-- behind a component, and before it: with the components before it the walk is held where its record begins
record Passes (s : List ℕ) (p n l t : ℕ) (c : Component) : Type 0 where
  pub comes : Comes s (on p n l t) (on (p + length (component_bytes c)) (n + 1) (c.number + 1) (length (tasks_of c.table)))
  pub begins : Holds s n (on p n l t) (on p n l t)

passes : (s : List ℕ) (c : Component) (p n l t : ℕ) (rest : List ℕ) → p ≤ length s → n < 256 → l ≤ c.number → Sound c → drop p s ≡ component_bytes c ++ rest → Passes s p n l t c
unfolding component_bytes interface_of
passes s c p n l t rest h few low sound e =
    let range = in_range c sound.ranges in
    let ks : List Task = tasks_of c.table in
    let H : List ℕ = head_bytes c.number c.period.0 c.capacity c.deadline.0 in
    let f : drop p s ≡ H ++ (tasks_bytes ks ++ rest) = e ∙ append_assoc H (tasks_bytes ks) rest in
    let m = length-append H (tasks_bytes ks) in
    let a : p + length (H ++ tasks_bytes ks) ≡ p + length H + length (tasks_bytes ks) = omega arith in
    let next : State = on (p + length H) (n + 1) (c.number + 1) 0 in
    let s₁ : step judged s (on p n l t) ≡ next = head_step s p n l t c.number c.period.0 c.capacity c.deadline.0 (tasks_bytes ks ++ rest) few low sound.number range.interface f in
    let w = comes_step s (on p n l t) next h refl s₁ refl in
    let z : 0 + length ks ≡ length ks = omega arith in
    let v : Comes s next (on (p + length H + length (tasks_bytes ks)) (n + 1) (c.number + 1) (length ks)) =
    rw z at (tasks_come s ks (p + length H) (n + 1) (c.number + 1) 0 rest w.within (omega arith) (omega (arith, few_tasks c sound)) range.tasks (behind s p H (tasks_bytes ks ++ rest) f)) in
    record {
      comes = rw a (comes_on s (on p n l t) next (on (p + length H + length (tasks_bytes ks)) (n + 1) (c.number + 1) (length ks)) w v);
      begins = first_holds s n (on p n l t) next refl s₁ (omega arith);
    }

-- ---- all components, up to a record that ends them

-- how many bytes stand before the component at place j
unfoldable pub before : ℕ → List Component → ℕ
before zero cs = 0
before (suc j) [] = 0
before (suc j) (c ∷ cs) = length (component_bytes c) + before j cs

-- where the walk stands behind the first j of them
unfoldable pub standing : ℕ → List Component → ℕ → ℕ → ℕ → ℕ → State
standing zero cs p n l t = on p n l t
standing (suc j) [] p n l t = on p n l t
standing (suc j) (c ∷ cs) p n l t = standing j cs (p + length (component_bytes c)) (n + 1) (c.number + 1) (length (tasks_of c.table))

-- the walk from a state on takes these components and stops behind the last, and with each count it is held behind as many
pub record Accepted (s : List ℕ) (cs : List Component) (p n l t : ℕ) : Type 0 where
  pub ends : Ends s (on p n l t) (ended (standing (length cs) cs p n l t))
  pub holds : (j : ℕ) → j ≤ length cs → Holds s (n + j) (on p n l t) (standing j cs p n l t)

standing_none : (j p n l t : ℕ) → standing j [] p n l t ≡ on p n l t
unfolding standing
standing_none zero p n l t = refl
standing_none (suc j) p n l t = refl

pub components_accepted : (s : List ℕ) (cs : List Component) (p n l t : ℕ) (tail : List ℕ) → p ≤ length s → Rising l cs → n + length cs ≤ 256 → drop p s ≡ components_bytes cs ++ tail → Stops (record_of tail)
    → Accepted s cs p n l t
unfolding standing components_bytes
components_accepted s [] p n l t tail h r few e o =
    let s₁ = stop_step s (on p n l t) tail e o in
    record {
      ends = last_ends s (on p n l t) refl s₁;
      holds = λ j i. rw (standing_none j p n l t) (last_holds s (n + j) (on p n l t) s₁);
    }
components_accepted s (c ∷ cs) p n l t tail h r few e o =
    let rest : List ℕ = components_bytes cs ++ tail in
    let f : drop p s ≡ component_bytes c ++ rest = e ∙ append_assoc (component_bytes c) (components_bytes cs) tail in
    let q : ℕ = p + length (component_bytes c) in
    let w = passes s c p n l t rest h (omega arith) r.0 r.1 f in
    let a =
    components_accepted s cs q (n + 1) (c.number + 1) (length (tasks_of c.table)) tail w.comes.within r.2 (omega arith)
    (behind s p (component_bytes c) rest f) o in
    record {
      ends = w.comes.ends (ended (standing (length cs) cs q (n + 1) (c.number + 1) (length (tasks_of c.table)))) a.ends;
      holds = holds w a;
    }
  where
    holds : Passes s p n l t c → Accepted s cs (p + length (component_bytes c)) (n + 1) (c.number + 1) (length (tasks_of c.table))
        → (j : ℕ) → j ≤ suc (length cs) → Holds s (n + j) (on p n l t) (standing j (c ∷ cs) p n l t)
    holds w a zero i = let z : n + 0 ≡ n = omega arith in rw z w.begins
    holds w a (suc j) i =
        let m : n + suc j ≡ n + 1 + j = omega arith in
        let x : State = standing j cs (p + length (component_bytes c)) (n + 1) (c.number + 1) (length (tasks_of c.table)) in
        rw m (w.comes.holds (n + 1 + j) x (omega arith) (a.holds j (omega arith)))

-- ---- what the walk stands on there

pub standing_place : (j : ℕ) (cs : List Component) (p n l t : ℕ) → (standing j cs p n l t).place ≡ p + before j cs
unfolding standing before
standing_place zero cs p n l t = omega arith
standing_place (suc j) [] p n l t = omega arith
standing_place (suc j) (c ∷ cs) p n l t =
    let e = standing_place j cs (p + length (component_bytes c)) (n + 1) (c.number + 1) (length (tasks_of c.table)) in omega arith

pub standing_count : (j : ℕ) (cs : List Component) (p n l t : ℕ) → j ≤ length cs → (standing j cs p n l t).count ≡ n + j
unfolding standing
standing_count zero cs p n l t h = omega arith
standing_count (suc j) [] p n l t h = absurd (omega arith)
standing_count (suc j) (c ∷ cs) p n l t h =
    let e = standing_count j cs (p + length (component_bytes c)) (n + 1) (c.number + 1) (length (tasks_of c.table)) (omega arith) in omega arith

-- the number of the last component, as the lowest that may follow, and the count of its tasks
pub standing_on : (j : ℕ) (cs : List Component) (p n l t : ℕ) → j < length cs
    → let c = get_or cs j refused in let st = standing (suc j) cs p n l t in (st.lowest ≡ c.number + 1) × (st.tasks ≡ length (tasks_of c.table))
unfolding standing
standing_on j [] p n l t h = absurd (omega arith)
standing_on zero (c ∷ cs) p n l t h = (refl, refl)
standing_on (suc j) (c ∷ cs) p n l t h =
    standing_on j cs (p + length (component_bytes c)) (n + 1) (c.number + 1) (length (tasks_of c.table)) (omega arith)

pub before_all_lem : (cs : List Component) → before (length cs) cs ≡ length (components_bytes cs)
unfolding before components_bytes
before_all_lem [] = refl
before_all_lem (c ∷ cs) = ap (λ (n : ℕ). length (component_bytes c) + n) (before_all_lem cs) ∙ sym (length-append (component_bytes c) (components_bytes cs))
