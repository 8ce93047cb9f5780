-- Loading, proved: where no two load ranges share an address and none passes the address space, every whole list loads as `Loaded`
-- demands. Assumes nothing.
use Rattle.std.specs.Prelude.{ℕ, ◌+◌, ◌-◌, ◌<◌, Bool, ◌↔◌, ◌⊎◌, ◌≡◌, length, get_or}
use Rattle.std.proofs.Math.Nat.{ℕ_set}
use Rattle.std.proofs.Math.Bridge.{le_prop}
use Rattle.std.proofs.Common.{arith, inl, inr, sym, ◌∙◌, ltb-false}
use Rattle.std.proofs.Math.Bool.{true, false, cond, Bool-set}
use mathlib.Core.List.Perm
use mathlib.Core.List.Pairwise
use mathlib.Core.List.{List, [], ◌∷◌, map, map-map, map-id, exists_of_mem-map, Mem, eq-or-mem_of_mem-cons, not-mem-nil, mem-cons_self, mem-cons_of_mem, mem-map_of_mem, Perm, Pairwise, Nodup, Disjoint}
use Rattle.std.proofs.Math.Logic.Or
use Rattle.std.proofs.Math.Logic.{∥∥₁_elim, ∥∥₁_map, ∥∥₁_prop}
use Rattle.std.proofs.Math.Path.{refl, ap, fun_ext}
use Rattle.pdi_spec.specs.{Lists.numbers, Lists.any_of, Ranges.end_of, Ranges.past, Ranges.LoadRange, Ranges.meet, Ranges.loads_to, Ranges.address_space, Stated.Stated, Stated.partitions_of, Stated.loadable, Loading.Memory, Loading.Feed, Loading.target, Loading.step, Loading.load, Loading.Whole, Loading.addresses_written, Loading.Loaded}
use Rattle.pdi_spec.proofs.Laws.{Lists.those_sublist, Lists.mem_flat_map, Lists.flat_map_mem, Lists.nodup_flat_map, Tests.is_not_true, Tests.never_both, Tests.either, Tests.any_entry, Tests.none_entry, Tests.mem_numbers, Tests.numbers_mem, Tests.numbers_ascending, Tests.within_bounds, Tests.bounds_within, Tests.overlap_turned, Tests.apart}

-- ---- two load ranges

-- `meet` is the same either way round
meet_turned : (a b : LoadRange) → meet a b ≡ false → meet b a ≡ false
unfolding meet
meet_turned a b e = is_not_true (meet b a) (λ h. never_both (overlap_turned b.addresses a.addresses h) e)

-- an address of one is none of the other's
missed : (a b : LoadRange) → meet a b ≡ false → (address : ℕ) → loads_to a address ≡ true → loads_to b address ≡ false
unfolding meet loads_to
missed a b = apart a.addresses b.addresses

-- a load range's addresses, one after another
abbrev addresses_of : LoadRange → List ℕ
addresses_of r = numbers r.addresses.start r.addresses.size

-- each of them lies in the range
listed : (r : LoadRange) {address : ℕ} → Mem address (addresses_of r) → loads_to r address ≡ true
unfolding loads_to
listed r {address} l = let h = mem_numbers _ _ l in bounds_within r.addresses address h.0 h.1

-- so does the range's address i
reached : (r : LoadRange) (i : ℕ) → i < r.addresses.size → loads_to r (r.addresses.start + i) ≡ true
unfolding loads_to
reached r i h = bounds_within r.addresses (r.addresses.start + i) (omega arith) (omega arith)

-- a range that does not pass the address space lies in it
below : (r : LoadRange) {address : ℕ} → past address_space r.addresses ≡ false → Mem address (addresses_of r) → address < address_space
unfolding past end_of
below r e l = omega (arith, (mem_numbers _ _ l).1, ltb-false address_space _ e)

-- ---- lists of numbers

-- numbers that follow one another are all different
numbers_nodup : (from n : ℕ) → Nodup (numbers from n)
numbers_nodup from n = Pairwise.imp (λ x y l e. omega arith) (numbers_ascending from n)

-- the loadable partitions are in ascending order
loadable_ascending : (s : Stated) → Pairwise (λ (x y : ℕ). x < y) (loadable s)
unfolding loadable partitions_of
loadable_ascending s = Pairwise.sublistᴰ (those_sublist s.loads (partitions_of s)) (numbers_ascending 1 s.count)

module _ (s : Stated) where
  -- ---- one step

  -- the byte that a step writes to an address of its target
  byte_for : Feed → ℕ → ℕ
  byte_for d address = get_or d.bytes (address - (target s d).addresses.start) 0

  -- a step leaves that byte at such an address, and any other address as it was
  step_hit : (m : Memory) (d : Feed) (address : ℕ) → loads_to (target s d) address ≡ true → step s m d address ≡ byte_for d address
  unfolding step byte_for
  step_hit m d address e = ap (λ b. cond b (byte_for d address) (m address)) e

  step_missed : (m : Memory) (d : Feed) (address : ℕ) → loads_to (target s d) address ≡ false → step s m d address ≡ m address
  unfolding step byte_for
  step_missed m d address e = ap (λ b. cond b (byte_for d address) (m address)) e

  -- ---- all steps

  -- the targets of two feeds share no address
  abbrev Apart : Feed → Feed → Type 0
  Apart d e = meet (target s d) (target s e) ≡ false

  -- an address in no target stays as it was
  kept : (m : Memory) (feeds : List Feed) (address : ℕ) → ((d : Feed) → Mem d feeds → loads_to (target s d) address ≡ false)
      → load s m feeds address ≡ m address
  unfolding load
  kept m [] address h = refl
  kept m (d ∷ feeds) address h =
      kept (step s m d) feeds address (λ e l. h e (mem-cons_of_mem d l)) ∙ step_missed m d address (h d mem-cons_self)

  -- an address in a feed's target ends with that feed's byte: the later steps miss it
  stored : (m : Memory) {feeds : List Feed} → Pairwise Apart feeds → (d : Feed) → Mem d feeds → (address : ℕ)
      → loads_to (target s d) address ≡ true → load s m feeds address ≡ byte_for d address
  unfolding load
  stored m Pairwise.nil d l address hit = absurd (not-mem-nil l)
  stored m (Pairwise.cons {a = e} {l = feeds} h p) d l address hit =
      Or.elim (ℕ_set _ _) (eq-or-mem_of_mem-cons l)
      (λ same. rw same (head (rw (← same) hit)))
      (λ later. stored (step s m e) p d later address hit)
    where
      head : loads_to (target s e) address ≡ true → load s (step s m e) feeds address ≡ byte_for e address
      head here = kept (step s m e) feeds address (λ f l. missed (target s e) (target s f) (h f l) address here) ∙ step_hit m e address here

  -- so the order does not matter: each address, in a target or in none, ends the same
  order_free : (m : Memory) {feeds others : List Feed} → Pairwise Apart feeds → Perm feeds others → load s m others ≡ load s m feeds
  order_free m {feeds} {others} p q = fun_ext (λ address. go address (either (any_of (hits address) feeds)))
    where
      hits : ℕ → Feed → Bool
      hits address d = loads_to (target s d) address

      p' : Pairwise Apart others
      p' = Perm.pairwise (λ d e. Bool-set _ _) (λ d e. meet_turned (target s d) (target s e)) q p

      go : (address : ℕ) → (any_of (hits address) feeds ≡ true) ⊎ (any_of (hits address) feeds ≡ false)
          → load s m others address ≡ load s m feeds address
      go address (inl e) =
          let r = any_entry (hits address) feeds e in
          stored m p' r.0 ((Perm.mem_iff q).0 r.1) address r.2 ∙ sym (stored m p r.0 r.1 address r.2)
      go address (inr e) =
          kept m others address (λ d l. none_entry (hits address) feeds e ((Perm.mem_iff q).1 l))
          ∙ sym (kept m feeds address (λ d l. none_entry (hits address) feeds e l))

  -- and no address is written twice
  written_once : {feeds : List Feed} → Pairwise Apart feeds → Nodup (addresses_written s feeds)
  unfolding addresses_written
  written_once p = nodup_flat_map _ (λ d. numbers_nodup _ _) (Pairwise.imp disjoint p)
    where
      disjoint : (d e : Feed) → Apart d e → Disjoint (addresses_of (target s d)) (addresses_of (target s e))
      disjoint d e h address here there =
          never_both (listed (target s e) there) (missed (target s d) (target s e) h address (listed (target s d) here))

  -- ---- a whole list

  -- its partitions have a load address
  fed : {feeds : List Feed} → Whole s feeds → (d : Feed) → Mem d feeds → Mem d.partition (loadable s)
  fed w d l = (Perm.mem_iff w.each_once).0 (mem-map_of_mem _ l)

  -- its targets are apart: no two of the loadable partitions' ranges meet, and the list is those partitions in some order
  whole_apart : ((e p : ℕ) → Mem e (loadable s) → Mem p (loadable s) → e < p → meet (s.load_range p) (s.load_range e) ≡ false)
      → {feeds : List Feed} → Whole s feeds → Pairwise Apart feeds
  unfolding target
  whole_apart clear w =
      Pairwise.of_map (λ (d : Feed). d.partition) (λ d e h. h)
      (Perm.pairwise (λ p q. Bool-set _ _) turned (Perm.symm w.each_once)
      (Pairwise.imp_of_mem (λ e p k l h. turned p e (clear e p k l h)) (loadable_ascending s)))
    where
      turned : (p q : ℕ) → meet (s.load_range p) (s.load_range q) ≡ false → meet (s.load_range q) (s.load_range p) ≡ false
      turned p q = meet_turned (s.load_range p) (s.load_range q)

-- Demand 3 of loading: every whole list, from any memory, loads as it should
pub loads_whole : (s : Stated)
    → ((e p : ℕ) → Mem e (loadable s) → Mem p (loadable s) → e < p → meet (s.load_range p) (s.load_range e) ≡ false)
    → ((p : ℕ) → Mem p (loadable s) → past address_space (s.load_range p).addresses ≡ false)
    → (m : Memory) (feeds : List Feed) → Whole s feeds → Loaded s m feeds
unfolding target byte_for addresses_written
loads_whole s clear low m feeds w =
    let p = whole_apart s clear w in
    record {
      yielded = λ d l i h. stored s m p d l _ (reached (target s d) i h) ∙ ap (λ n. get_or d.bytes n 0) (omega arith);
      untouched = λ address h. kept s m feeds address (λ d l. h d.partition (fed s w d l));
      any_order = λ others q. order_free s m p q;
      once_each = written_once s p;
      inside = λ address l.
          ∥∥₁_elim (mem_flat_map _ feeds l) le_prop (λ r. below (target s r.0) (low _ (fed s w r.0 r.1)) r.2);
    }

-- the addresses written are those of the fed partitions' load ranges
pub addresses_are : (s : Stated) (feeds : List Feed) (address : ℕ)
    → Mem address (addresses_written s feeds)
    ↔ ∥ ((d : Feed) × Mem d feeds × (loads_to (s.load_range d.partition) address ≡ true)) ∥₁
unfolding addresses_written target loads_to
addresses_are s feeds address = (
  λ m. ∥∥₁_map (mem_flat_map _ feeds m) (λ t. (t.0, t.1, listed (s.load_range t.0.partition) t.2)),
  λ h. ∥∥₁_elim h ∥∥₁_prop (λ t. let b = within_bounds _ address t.2 in flat_map_mem _ feeds t.1 (numbers_mem _ _ b.0 b.1)),
)

-- whole lists exist: for each partition with a load address, as many bytes as it loads
pub whole_exists : (s : Stated) (chosen : ℕ → List ℕ) → ((p : ℕ) → length (chosen p) ≡ (s.load_range p).addresses.size)
    → Whole s (map (λ (p : ℕ). record { partition = p; bytes = chosen p }) (loadable s))
unfolding target
whole_exists s chosen h =
    let feed : ℕ → Feed = λ p. record { partition = p; bytes = chosen p } in
    let same : map (λ (d : Feed). d.partition) (map feed (loadable s)) ≡ loadable s =
    map-map (λ (d : Feed). d.partition) feed (loadable s) ∙ map-id (loadable s) in
    record {
      each_once = rw same (Perm.refl (loadable s));
      sized = λ d m. ∥∥₁_elim (exists_of_mem-map {f = feed} {l = loadable s} m) (ℕ_set _ _) (λ t. rw (← t.2) (h t.0));
    }
