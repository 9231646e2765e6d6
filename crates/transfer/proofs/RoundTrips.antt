-- The two round trips. Written one after the other, components and pairs leave the bytes of their sheet; that sheet is read back, and an accepted sheet is one.
use Prim.Native.Nat.{ℕ, suc, ◌+◌, ◌≤◌, ◌<◌}
use mathlib.Core.Path.{◌≡◌, refl, sym, ap, ap₂, subst, ◌∙◌}
use mathlib.Core.List.{List, [], ◌∷◌, ◌++◌, append_assoc}
use native.Mathlib.Nat.{add-zero, add_assoc, zero-add, suc-add, add-suc}
use native.Mathlib.Omega.{arith}
use lib.ListN.{length, get_or, take, drop, length-append}
use lib.Seq.{sets, sets-eq, length-sets, take-append_seam}
use borrow.Author.Tests.{le-leb, lt-ltb, le-ltb}
use Rattle.budget.specs.declared.component.Component.{Component}
use Rattle.budget.specs.Component.{Same, refused, with_tasks}
use Rattle.budget.specs.Task.{tasks_of, table_of}
use Rattle.budget.proofs.Ranges.{held_in, in_range}
use Rattle.budget.proofs.TableLaws.{tasks_of_table}
use Rattle.record.specs.declared.layout.Pair.{Pair}
use Rattle.record.specs.Layout.{pair_bytes, end_bytes}
use Rattle.sheet.specs.Check.{check, pairs_of}
use Rattle.sheet.specs.Pairs.{Nested}
use Rattle.sheet.specs.Part.{part_of}
use Rattle.sheet.specs.Register.{Entry}
use Rattle.sheet.proofs.PairLaws.{pair_taken}
use Rattle.transfer.specs.Reading.{Reading}
use Rattle.transfer.specs.Pairing.{no_pair, pair_reading, pair_writing_refusal}
use Rattle.transfer.specs.Reading.{reading}
use Rattle.transfer.specs.RoundTrip.{components_bytes, pairs_bytes, sheet_bytes, Page, put, put_pair, close, put_all, put_pairs, write_all, readings, pair_readings, SameBytes, PartsRead, returned, Sound, Rising, entries_of, ReadBack, SameComponents}
use Rattle.transfer.specs.Writing.{component_bytes, stored, room_refusal, writing_refusal, end_refusal, written, buffered}
use Rattle.transfer.proofs.Accepts.{tasks_full}
use Rattle.transfer.proofs.ReadsBack.{Fitting, sheet_accepted, part_is, reading_back, pair_reading_lem, pair_missing, sound_at}
use Rattle.transfer.proofs.Sheet.{accepted_sheet}
use Rattle.transfer.proofs.StoreLaws.{sets_append}

-- ---- writing

abbrev page : List ℕ → ℕ → Page
page buffer place = record { buffer = buffer; place = place }

-- a page behind bytes that were not refused
abbrev after : List ℕ → ℕ → List ℕ → Page
after buffer at bytes = page (sets buffer at bytes) (at + length bytes)

put_is : (b : List ℕ) (at : ℕ) (c : Component) → Sound c → at + length (component_bytes c) ≤ length b → put (page b at) c ≡ after b at (component_bytes c)
unfolding put writing_refusal room_refusal written buffered stored
put_is b at c sound h =
    rw (held_in c (in_range c sound.ranges) sound.common, le-leb (at + length (component_bytes c)) (length b) h)
    (ap (λ (l : List ℕ). page l (at + length (component_bytes c))) (sym (sets-eq (component_bytes c) b at h)))

pair_is : (b : List ℕ) (at : ℕ) (p : Pair) → p.child < p.parent → at + length (pair_bytes p) ≤ length b → put_pair (page b at) p ≡ after b at (pair_bytes p)
unfolding put_pair pair_writing_refusal room_refusal written buffered stored
pair_is b at p larger h =
    rw (lt-ltb p.child p.parent larger, le-leb (at + length (pair_bytes p)) (length b) h)
    (ap (λ (l : List ℕ). page l (at + length (pair_bytes p))) (sym (sets-eq (pair_bytes p) b at h)))

close_is : (b : List ℕ) (at count : ℕ) → count ≤ 256 → at + length (end_bytes count) ≤ length b → close (page b at) count ≡ after b at (end_bytes count)
unfolding close end_refusal room_refusal written buffered stored
close_is b at count few h =
    rw (le-ltb 256 count few, le-leb (at + length (end_bytes count)) (length b) h)
    (ap (λ (l : List ℕ). page l (at + length (end_bytes count))) (sym (sets-eq (end_bytes count) b at h)))

after_both : (b : List ℕ) (at : ℕ) (x y : List ℕ) → after (sets b at x) (at + length x) y ≡ after b at (x ++ y)
after_both b at x y =
    ap₂ page (sym (sets_append b at x y)) (add_assoc at (length x) (length y) ∙ ap (λ (n : ℕ). at + n) (sym (length-append x y)))

put_all_lem : (cs : List Component) (l : ℕ) → Rising l cs → (b : List ℕ) (at : ℕ) → at + length (components_bytes cs) ≤ length b → put_all (page b at) cs ≡ after b at (components_bytes cs)
unfolding put_all components_bytes
put_all_lem [] l r b at h = ap (page b) (sym (add-zero at))
put_all_lem (c ∷ cs) l r b at h =
    let n : length (component_bytes c ++ components_bytes cs) ≡ length (component_bytes c) + length (components_bytes cs) = length-append (component_bytes c) (components_bytes cs) in
    let m = length-sets b at (component_bytes c) in
    ap (λ (p : Page). put_all p cs) (put_is b at c r.1 (omega arith))
    ∙ (put_all_lem cs (c.number + 1) r.2 (sets b at (component_bytes c)) (at + length (component_bytes c)) (omega arith)
    ∙ after_both b at (component_bytes c) (components_bytes cs))

put_pairs_lem : (es : List Entry) (earlier ps : List Pair) → Nested es earlier ps → (b : List ℕ) (at : ℕ) → at + length (pairs_bytes ps) ≤ length b → put_pairs (page b at) ps ≡ after b at (pairs_bytes ps)
unfolding put_pairs pairs_bytes
put_pairs_lem es earlier [] t b at h = ap (page b) (sym (add-zero at))
put_pairs_lem es earlier (p ∷ ps) t b at h =
    let n : length (pair_bytes p ++ pairs_bytes ps) ≡ length (pair_bytes p) + length (pairs_bytes ps) = length-append (pair_bytes p) (pairs_bytes ps) in
    let m = length-sets b at (pair_bytes p) in
    ap (λ (x : Page). put_pairs x ps) (pair_is b at p (pair_taken es earlier p t.0).larger (omega arith))
    ∙ (put_pairs_lem es (earlier ++ (p ∷ [])) ps t.1 (sets b at (pair_bytes p)) (at + length (pair_bytes p)) (omega arith)
    ∙ after_both b at (pair_bytes p) (pairs_bytes ps))

whole_page : (b bytes : List ℕ) → length bytes ≤ length b → after b 0 bytes ≡ page (bytes ++ drop (length bytes) b) (length bytes)
whole_page b bytes h =
    let z : 0 + length bytes ≡ length bytes = zero-add (length bytes) in
    ap₂ page (sets-eq bytes b 0 (omega arith) ∙ ap (λ (n : ℕ). bytes ++ drop n b) z) z

write_all_lem : (cs : List Component) (ps : List Pair) → Fitting cs ps → (b : List ℕ) → length (sheet_bytes cs ps) ≤ length b
    → write_all b cs ps ≡ page (sheet_bytes cs ps ++ drop (length (sheet_bytes cs ps)) b) (length (sheet_bytes cs ps))
unfolding write_all sheet_bytes
write_all_lem cs ps v b h =
    let C = components_bytes cs in
    let P = pairs_bytes ps in
    let E = end_bytes (length cs) in
    let n : length (C ++ (P ++ E)) ≡ length C + length (P ++ E) = length-append C (P ++ E) in
    let m : length (P ++ E) ≡ length P + length E = length-append P E in
    let o : length (C ++ P) ≡ length C + length P = length-append C P in
    let i = length-sets b 0 C in
    let j = length-sets b 0 (C ++ P) in
    ap (λ (x : Page). close (put_pairs x ps) (length cs)) (put_all_lem cs 0 v.rising b 0 (omega arith))
    ∙ (ap (λ (x : Page). close x (length cs)) (put_pairs_lem (entries_of cs) [] ps v.nested (sets b 0 C) (0 + length C) (omega arith) ∙ after_both b 0 C P)
    ∙ (close_is (sets b 0 (C ++ P)) (0 + length (C ++ P)) (length cs) v.few (omega arith)
    ∙ (after_both b 0 (C ++ P) E
    ∙ (ap (after b 0) (append_assoc C P E) ∙ whole_page b (C ++ (P ++ E)) h))))

-- ---- valid components and pairs are read back the same

same_returned : (c : Component) → Sound c → Same (returned c) c
unfolding with_tasks table_of
same_returned c sound =
    record { number = refl; period = refl; capacity = refl; deadline = refl; common = sym sound.common; count = tasks_full c sound; tasks = tasks_of_table (tasks_of c.table) }

read_back : (cs : List Component) (ps : List Pair) → Fitting cs ps → ReadBack (sheet_bytes cs ps) cs ps
read_back cs ps v =
    record {
      accepted = sheet_accepted cs ps v;
      read = reading_back cs ps v;
      same =
          λ k h.
          subst (λ (x : Reading). Same x.component (get_or cs k refused)) (sym (reading_back cs ps v k h))
          (same_returned (get_or cs k refused) (sound_at cs 0 v.rising k h));
      paired = pair_reading_lem cs ps v;
      no_more = pair_missing cs ps v;
    }

pub same_components : SameComponents
same_components cs ps rising nested few short b h =
    let v : Fitting cs ps = record { rising = rising; nested = nested; few = few; short = short } in
    let e = write_all_lem cs ps v b h in (
      e,
      subst (λ (s : List ℕ). ReadBack s cs ps)
          (sym (ap (λ (p : Page). take p.place p.buffer) e ∙ take-append_seam (sheet_bytes cs ps) (drop (length (sheet_bytes cs ps)) b)))
          (read_back cs ps v),
    )

-- ---- an accepted sheet is written back the same

readings_are : (s : List ℕ) (cs : List Component) (k : ℕ) → ((j : ℕ) → (reading s (k + j)).component ≡ get_or cs j refused) → readings s k (length cs) ≡ cs
unfolding readings
readings_are s [] k h = refl
readings_are s (c ∷ cs) k h =
    ap₂ ◌∷◌ (ap (λ (i : ℕ). (reading s i).component) (sym (add-zero k)) ∙ h 0)
    (readings_are s cs (suc k) (λ j. ap (λ (i : ℕ). (reading s i).component) (suc-add k j ∙ sym (add-suc k j)) ∙ h (suc j)))

pairs_read : (s : List ℕ) (ps : List Pair) (k : ℕ) → ((j : ℕ) → j < length ps → (pair_reading s (k + j)).pair ≡ get_or ps j no_pair) → pair_readings s k (length ps) ≡ ps
unfolding pair_readings
pairs_read s [] k h = refl
pairs_read s (p ∷ ps) k h =
    ap₂ ◌∷◌ (ap (λ (i : ℕ). (pair_reading s i).pair) (sym (add-zero k)) ∙ h 0 (omega arith))
    (pairs_read s ps (suc k) (λ j l. ap (λ (i : ℕ). (pair_reading s i).pair) (suc-add k j ∙ sym (add-suc k j)) ∙ h (suc j) (omega arith)))

-- each pair of an accepted sheet is read at its place
pair_read : (s : List ℕ) → (check s).refusal ≡ 0 → (k : ℕ) → k < length (pairs_of s) → (pair_reading s k).pair ≡ get_or (pairs_of s) k no_pair
unfolding pair_reading
pair_read s e k h = rw (e, lt-ltb k (length (pairs_of s)) h)

pub same_bytes : SameBytes
same_bytes s bytes e b room =
    let w = accepted_sheet s bytes e in
    let q = w.bytes in
    let components : readings s 0 (check s).count ≡ w.cs =
    ap (readings s 0) w.count ∙ readings_are s w.cs 0 (λ j. ap (λ (i : ℕ). (reading s i).component) (zero-add j) ∙ w.reads j) in
    let pairs : pair_readings s 0 (length (pairs_of s)) ≡ pairs_of s =
    pairs_read s (pairs_of s) 0 (λ j h. ap (λ (i : ℕ). (pair_reading s i).pair) (zero-add j) ∙ pair_read s e j h) in
    ap₂ (write_all b) components (pairs ∙ w.pairs)
    ∙ (write_all_lem w.cs w.ps w.fits b (subst (λ (x : List ℕ). length x ≤ length b) q room)
    ∙ ap (λ (x : List ℕ). page (x ++ drop (length x) b) (length x)) (sym q))

-- ---- each part of an accepted sheet is the bytes of its component

pub parts_read : PartsRead
parts_read s bytes e k h =
    let w = accepted_sheet s bytes e in
    ap (λ (x : List ℕ). part_of x k) w.bytes
    ∙ (part_is w.cs w.ps w.fits k (subst (λ (n : ℕ). k < n) w.count h) ∙ ap component_bytes (sym (w.reads k)))
