-- A number stored byte by byte, one byte and the rest, and as eight bytes: to write them over a part stores what the definition stores byte
-- by byte. Assumes nothing.
use Rattle.std.proofs.Common.{◌≡◌, ℕ, zero, suc, ◌+◌, ◌-◌, ◌/◌, ◌%◌, ◌≤◌, ◌<◌, List, length, set, add-one, sub-one, arith, append_assoc, drop-drop, ◌∙◌}
use Rattle.std.proofs.Math.Nat.{div-div-eq-div-mul}
use Rattle.std.specs.Int.{w64, to_le_bytes}
use Rattle.std.proofs.lemmas.List.Edits.{sets, sets-eq}
use borrow.Rule.Slice.PartMut.{put_mid}
use Rattle.pdi_spec.specs.Host.{le_bytes}

pub store_byte : (l : List ℕ) (at n v : ℕ) → 0 < n
    → sets l at (le_bytes n v) ≡ sets (set l at (v % 256)) (at + 1) (le_bytes (n - 1) (v / 256))
unfolding le_bytes
store_byte l at zero v h = absurd (omega arith)
store_byte l at (suc n) v h = simp (add-one, sub-one)

eight_bytes : (v : ℕ) → to_le_bytes w64 v ≡ le_bytes 8 v
unfolding le_bytes
eight_bytes v = simp div-div-eq-div-mul

pub eight_stored : (s : List ℕ) (at k v : ℕ) (bytes : List ℕ) → k ≡ 8 → bytes ≡ to_le_bytes w64 v → at + 8 ≤ length s
    → put_mid at k s bytes ≡ sets s at (le_bytes 8 v)
unfolding le_bytes
eight_stored s at k v bytes e stored h =
    rw (e, stored ∙ eight_bytes v, sets-eq (le_bytes 8 v) s at h) (simp (append_assoc, drop-drop))
