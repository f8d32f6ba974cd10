-- What the fields of a line give, stored from k on, for a loop that has come to the field at place p: that field's number comes first, and behind it
-- what the fields after its end give.
use mathlib.Core.Path.{◌≡◌, ap, ◌∙◌}
use mathlib.Core.List.{List, map}
use Prim.Native.Nat.{ℕ, ◌+◌, ◌-◌, ◌≤◌, ◌<◌}
use lib.ListN.{length, take, drop}
use Rattle.store.proofs.Stored.{sets_first}
use Rattle.scan.specs.Text.{len_to, rest, comma}
use Rattle.scan.proofs.Places.{rest_step, rest_none}
use Rattle.reader.specs.Tables.{Lists, with_entry, with_entries}

module _ (t : Lists) (k : ℕ) (g : List ℕ → ℕ) (l : List ℕ) (p : ℕ) where
  pub store_field : (e : ℕ) → p ≤ length l → e ≡ p + len_to comma (drop p l) → (v : ℕ) → g (take (e - p) (drop p l)) ≡ v
      → with_entries t k (map g (rest comma l p)) ≡ with_entries (with_entry t k v) (k + 1) (map g (rest comma l (e + 1)))
  store_field e h q v w =
      ap (λ (fs : List (List ℕ)). with_entries t k (map g fs)) (rest_step comma l p e h q)
      ∙ ap (λ (x : List ℕ). record t { entries = x }) (sets_first t.entries k (g (take (e - p) (drop p l))) (map g (rest comma l (e + 1))))
      ∙ ap (λ (x : ℕ). with_entries (with_entry t k x) (k + 1) (map g (rest comma l (e + 1)))) w

  pub store_none : length l < p → with_entries t k (map g (rest comma l p)) ≡ t
  store_none h = ap (λ (fs : List (List ℕ)). with_entries t k (map g fs)) (rest_none comma l p h)
