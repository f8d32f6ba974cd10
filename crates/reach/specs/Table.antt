-- What the private functions tell each other. A set of names is a set of literals that has both literals of each name, and a table has such a set for each
-- name.
use Rattle.std.specs.Prelude.{◌≡◌, ◌⊎◌, ◌↔◌, Bool, true, false, not, cond, ◌&&◌, ◌||◌, List, [], map, ℕ, ◌+◌, ◌*◌, ◌/◌, ◌%◌, ◌^◌, ◌≤◌, ◌<◌, eqb, ltb, length, get_or}
use Rattle.std.specs.Int.Bits.{bit_or}
use Rattle.std.proofs.lemmas.List.Edits.{sets}
use Rattle.wfsx.specs.Sets.{Set, ◌∈◌, ◌∉◌, ◌⊆◌, ∅, ◌∪◌, ◌∖◌, members}
use Rattle.wfsx.specs.Program.{Program}
use Rattle.wfsx.specs.Model.{Both}
use Rattle.wfsx.specs.Reach.{name_of, body_names, reach, group, literals_of}
use Rattle.wfsx.specs.Groups.{MayCome}
use Rattle.litset.specs.Words.{capacity, set_of}
use Rattle.litset.specs.declared.LitSet.{LitSet}

-- The names that a set has room for: `NAMES` in src/lib.rt is the same number.
abbrev pub n_names : ℕ
n_names = capacity / 2

-- the set in row k of a table; past the end it is empty
abbrev pub row_set : List LitSet → ℕ → Set
row_set table k = set_of (get_or table k (record { words = [] })).words

-- the name k alone
abbrev pub only : ℕ → Set
only k j = eqb j k

-- S with both literals of name k
abbrev pub with_name : ℕ → Set → Set
with_name k S A = eqb (name_of A) k || S A

-- word i of a set, with both literals of name k where they are of that word
abbrev pub paired_word : ℕ → ℕ → ℕ → ℕ
paired_word word i k = cond (eqb i (k / 32)) (bit_or (bit_or word (2 ^ (2 * (k % 32)))) (2 ^ (2 * (k % 32) + 1))) word

-- the names with both literals in S
abbrev pub both_in : Set → Set
both_in S k = S (2 * k) && S (2 * k + 1)

-- row k was replaced
pub record Put (table : List LitSet) (k : ℕ) (row : Set) (after : List LitSet) : Type 0 where
  pub size : length after ≡ length table
  pub here : row_set after k ≡ row
  pub others : (i : ℕ) → (i ≡ k → ⊥) → row_set after i ≡ row_set table i

-- a row is whole where its name is in S: it has what the name reaches; the others have the names in the bodies of the name's rules
pub record Rows (P : Program) (S : Set) (table : List LitSet) : Type 0 where
  pub size : length table ≡ n_names
  pub whole : (i : ℕ) → 2 * i ∈ S → row_set table i ≡ literals_of (reach P i)
  pub direct : (i : ℕ) → 2 * i ∉ S → i < n_names → row_set table i ≡ literals_of (body_names P (only i))

-- the rows of the names below n are whole
pub record WholeRows (P : Program) (n : ℕ) (table : List LitSet) : Type 0 where
  pub size : length table ≡ n_names
  pub whole : (i : ℕ) → i < n → row_set table i ≡ literals_of (reach P i)

-- what name k reaches, by a table whose rows are whole where the name is in S
pub record ReachedBy (table : List LitSet) (S : Set) (k : ℕ) (row : Set) : Type 0 where
  pub is : (P : Program) → Rows P S table → row ≡ literals_of (reach P k)

-- the names that are done with j, and with its row where that is whole
abbrev pub settled_with : (j : ℕ) (whole row done : Set) → Set
settled_with j whole row done = cond (whole (2 * j) && row (2 * j)) (done ∪ row) (with_name j done)

-- more rows are whole: those of the names in S'
pub record Swept (table : List LitSet) (S : Set) (table' : List LitSet) (S' : Set) : Type 0 where
  pub size : length table' ≡ length table
  pub keeps : S ⊆ S'
  pub by : (P : Program) → Rows P S table → Rows P S' table'

-- row k is among them where all are wanted
pub record Completed (table : List LitSet) (S : Set) (k : ℕ) (all : Bool) (table' : List LitSet) (S' : Set) : Type 0 where
  pub swept : Swept table S table' S'
  pub has : all ≡ true → 2 * k ∈ S'

-- the name at turn i is one of the n names; upwards it is i
pub record TurnOf (n i : ℕ) (down : Bool) (k : ℕ) : Type 0 where
  pub below : k < n
  pub upwards : down ≡ false → k ≡ i

-- where all are wanted, upwards, the rows of all n names are
pub record SweptBy (table : List LitSet) (S : Set) (n : ℕ) (down all : Bool) (table' : List LitSet) (S' : Set) : Type 0 where
  pub swept : Swept table S table' S'
  pub each : all ≡ true → down ≡ false → (j : ℕ) → j < n → 2 * j ∈ S'

-- some name has both literals in U and in S
abbrev pub ShareBoth : Set → Set → Type 0
ShareBoth U S = (k : ℕ) × Both U k × Both S k

-- R is F, with the literals of `more` where the row shares a name with S
pub record WithReaching (F more row S R : Set) : Type 0 where
  pub exactly : (A : ℕ) → (A ∈ R) ↔ ((A ∈ F) ⊎ ((A ∈ more) × ShareBoth row S))

-- R has both literals of each of the first n names whose row shares a name with S
pub record RowsHaving (table : List LitSet) (n : ℕ) (S R : Set) : Type 0 where
  pub exactly : (A : ℕ) → (A ∈ R) ↔ ((name_of A < n) × ShareBoth (row_set table (name_of A)) S)

-- some names of U that reach k, and k
pub record Meeting (table : List LitSet) (k : ℕ) (U met : Set) : Type 0 where
  pub names : Set
  pub are : met ≡ literals_of names
  pub itself : k ∈ names
  pub each : (j : ℕ) → j ∈ names → (j ≡ k) ⊎ ((j ∈ U) × (2 * k ∈ row_set table j))

-- the lowest name of the set that is not among them does not reach k
pub record Met (table : List LitSet) (k : ℕ) (among met : Set) : Type 0 where
  pub has : 2 * k ∈ met
  pub is : (U : Set) → among ≡ literals_of U → Meeting table k U met
  pub stops : (j : ℕ) → j ∈ both_in (among ∖ met) → ((i : ℕ) → i < j → i ∉ both_in (among ∖ met)) → 2 * k ∉ row_set table j

-- the names below n
abbrev pub below : ℕ → Set
below n j = ltb j n

-- those of them that are not listed
abbrev pub unlisted_below : ℕ → Set → Set
unlisted_below n listed j = ltb j n && not (listed j)

-- the group that comes next, or none
pub data Next (P : Program) (n : ℕ) (listed G : Set) : Type 0 where
  found : (k : ℕ) → MayCome P n listed k → ((j : ℕ) → j < k → MayCome P n listed j → ⊥) → G ≡ literals_of (λ j. ltb j n && group P k j) → Next P n listed G
  nothing : ((k : ℕ) → MayCome P n listed k → ⊥) → G ≡ ∅ → Next P n listed G

-- where whole groups are listed, and the names left are those below n that are not
pub record Waiting (P : Program) (n : ℕ) (listed : Set) (table : List LitSet) (left : Set) : Type 0 where
  pub most : n ≤ n_names
  pub rows : WholeRows P n table
  pub groups : (i j : ℕ) → j ∈ listed → j ∈ group P i → i ∈ listed
  pub left_are : left ≡ literals_of (unlisted_below n listed)

-- the names in row j of `watch` reach j and it does not reach them; each of the names in `stuck` is in the row of a name that is left
pub record Stuck (P : Program) (n : ℕ) (listed : Set) (watch : List LitSet) (stuck : Set) : Type 0 where
  pub size : length watch ≡ n_names
  pub watched : (j A : ℕ) → j < n → A ∈ row_set watch j → (j ∈ reach P (name_of A)) × (name_of A ∉ reach P j)
  pub on : (A : ℕ) → A ∈ stuck → (j : ℕ) × (j < n) × (j ∉ listed) × (A ∈ row_set watch j)

-- names known to wait, as they were and as they are: more of them may be known
pub record Noted (table : List LitSet) (left : Set) (watch : List LitSet) (stuck : Set) (watch' : List LitSet) (stuck' : Set) : Type 0 where
  pub size : length watch' ≡ length watch
  pub by : (P : Program) (n : ℕ) (listed : Set) → Waiting P n listed table left → Stuck P n listed watch stuck → Stuck P n listed watch' stuck'

pub record NextBy (table : List LitSet) (left : Set) (watch : List LitSet) (stuck : Set) (watch' : List LitSet) (stuck' G : Set) : Type 0 where
  pub noted : Noted table left watch stuck watch' stuck'
  pub is : (P : Program) (n : ℕ) (listed : Set) → Waiting P n listed table left → Stuck P n listed watch stuck → Next P n listed G

-- of the names in `stuck` those that stay are in no row of a name of the group
pub record Released (watch : List LitSet) (G stuck stuck' : Set) : Type 0 where
  pub stay : stuck' ⊆ stuck
  pub apart : (j A : ℕ) → j ∈ both_in G → A ∈ stuck' → A ∉ row_set watch j

-- the names of a group fit into two tables at the places from `at` on
pub record PutFits (S : Set) (number at : ℕ) (name numbers : List ℕ) : Type 0 where
  pub room : at + length (members n_names (both_in S)) ≤ length name
  pub alike : length numbers ≡ length name
  pub small : number < 65536

-- they stand there
pub record PutNames (W : Set) (number at : ℕ) (name numbers : List ℕ) (end : ℕ) (name' numbers' : List ℕ) : Type 0 where
  pub behind : end ≡ at + length (members n_names W)
  pub named : name' ≡ sets name at (members n_names W)
  pub counted : numbers' ≡ sets numbers at (map (λ _. number) (members n_names W))
