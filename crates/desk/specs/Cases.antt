-- Document 01, "Short books to hold against it": cases 1 to 11 as one table of data, and among them a file of no bytes, one with capitals, one with as many
-- rounds as heads and one with a bad name (document 02, A.4, A.2, A.10 and A.7). Each has the calls, and what the listing, the verdicts and the searches give
-- after them. Bytes stand as numbers, with their text above them, lines parted by ` / `.
use Rattle.std.specs.Prelude.{Bool, true, false, List, [], ◌∷◌, map, ℕ, length}
use Rattle.wfsx.specs.Model.{M, N, Verdict, is_true, is_false, is-undefined}
use Rattle.wfsx.specs.Trees.{Tree, T, TU, answer}
use Rattle.search.specs.Questions.{question_of}
use Rattle.lesson.specs.State.{State, its_names, program_in, listing_in, Said, gives, refused, contradictory_below, verdict_says}
use Rattle.lesson.specs.declared.Change.TheVariants.{PutIn, TakeOut}
use Rattle.desk.specs.Runs.{Call, load, change, left}

-- a search, and whether it says yes
pub record Search : Type 0 where
  pub literal : ℕ
  pub default : Bool
  pub tree : Tree
  pub yes : Bool

abbrev asks : ℕ → Bool → Tree → Bool → Search
asks A default k b = record { literal = A; default = default; tree = k; yes = b }

pub record Case : Type 0 where
  pub calls : List Call
  pub listing : List ℕ
  pub verdicts : List (ℕ × Said Verdict)
  pub answers : List Search

-- the case as the definitions have it: the same calls, literals and questions, with what they give
abbrev pub answered : State → Search → Search
answered d s =
    record { literal = s.literal; default = s.default; tree = s.tree; yes = answer (program_in d) s.tree (question_of s.literal s.default) }

-- what the verdict call says of a literal
abbrev pub judged : State → ℕ → Said Verdict
judged d A = let P = program_in d in verdict_says d.book (M P) (N P) (contradictory_below (length (its_names d.book)) P) A

abbrev pub found : Case → Case
found c =
    record {
      calls = c.calls;
      listing = listing_in (left c.calls);
      verdicts = map (λ (v : ℕ × Said Verdict). (v.0, judged (left c.calls) v.0)) c.verdicts;
      answers = map (answered (left c.calls)) c.answers;
    }

-- name,moving / name,locked / name,fault / name,stalled / rule,moving,~locked / rule,locked,~moving / rule,fault,moving,~stalled / rule,-locked / rule,stalled,~stalled / end
abbrev file_1 : List ℕ
file_1 = 110 ∷ 97 ∷ 109 ∷ 101 ∷ 44 ∷ 109 ∷ 111 ∷ 118 ∷ 105 ∷ 110 ∷ 103 ∷ 10 ∷ 110 ∷ 97 ∷ 109 ∷ 101 ∷ 44 ∷ 108 ∷ 111 ∷ 99 ∷ 107 ∷ 101 ∷ 100 ∷ 10 ∷ 110 ∷ 97 ∷ 109 ∷ 101 ∷ 44 ∷ 102 ∷ 97 ∷ 117 ∷ 108 ∷ 116 ∷ 10 ∷ 110 ∷ 97 ∷ 109 ∷ 101 ∷ 44 ∷ 115 ∷ 116 ∷ 97 ∷ 108 ∷ 108 ∷ 101 ∷ 100 ∷ 10 ∷ 114 ∷ 117 ∷ 108 ∷ 101 ∷ 44 ∷ 109 ∷ 111 ∷ 118 ∷ 105 ∷ 110 ∷ 103 ∷ 44 ∷ 126 ∷ 108 ∷ 111 ∷ 99 ∷ 107 ∷ 101 ∷ 100 ∷ 10 ∷ 114 ∷ 117 ∷ 108 ∷ 101 ∷ 44 ∷ 108 ∷ 111 ∷ 99 ∷ 107 ∷ 101 ∷ 100 ∷ 44 ∷ 126 ∷ 109 ∷ 111 ∷ 118 ∷ 105 ∷ 110 ∷ 103 ∷ 10 ∷ 114 ∷ 117 ∷ 108 ∷ 101 ∷ 44 ∷ 102 ∷ 97 ∷ 117 ∷ 108 ∷ 116 ∷ 44 ∷ 109 ∷ 111 ∷ 118 ∷ 105 ∷ 110 ∷ 103 ∷ 44 ∷ 126 ∷ 115 ∷ 116 ∷ 97 ∷ 108 ∷ 108 ∷ 101 ∷ 100 ∷ 10 ∷ 114 ∷ 117 ∷ 108 ∷ 101 ∷ 44 ∷ 45 ∷ 108 ∷ 111 ∷ 99 ∷ 107 ∷ 101 ∷ 100 ∷ 10 ∷ 114 ∷ 117 ∷ 108 ∷ 101 ∷ 44 ∷ 115 ∷ 116 ∷ 97 ∷ 108 ∷ 108 ∷ 101 ∷ 100 ∷ 44 ∷ 126 ∷ 115 ∷ 116 ∷ 97 ∷ 108 ∷ 108 ∷ 101 ∷ 100 ∷ 10 ∷ 101 ∷ 110 ∷ 100 ∷ 10 ∷ []

-- 1: lists model,4,5,0,2 / 0,moving,true,false / 1,locked,false,true / 2,fault,undefined,false / 3,stalled,undefined,false
abbrev case_1 : Case
case_1 =
    record {
      calls = load file_1 ∷ [];
      listing = 109 ∷ 111 ∷ 100 ∷ 101 ∷ 108 ∷ 44 ∷ 52 ∷ 44 ∷ 53 ∷ 44 ∷ 48 ∷ 44 ∷ 50 ∷ 10 ∷ 48 ∷ 44 ∷ 109 ∷ 111 ∷ 118 ∷ 105 ∷ 110 ∷ 103 ∷ 44 ∷ 116 ∷ 114 ∷ 117 ∷ 101 ∷ 44 ∷ 102 ∷ 97 ∷ 108 ∷ 115 ∷ 101 ∷ 10 ∷ 49 ∷ 44 ∷ 108 ∷ 111 ∷ 99 ∷ 107 ∷ 101 ∷ 100 ∷ 44 ∷ 102 ∷ 97 ∷ 108 ∷ 115 ∷ 101 ∷ 44 ∷ 116 ∷ 114 ∷ 117 ∷ 101 ∷ 10 ∷ 50 ∷ 44 ∷ 102 ∷ 97 ∷ 117 ∷ 108 ∷ 116 ∷ 44 ∷ 117 ∷ 110 ∷ 100 ∷ 101 ∷ 102 ∷ 105 ∷ 110 ∷ 101 ∷ 100 ∷ 44 ∷ 102 ∷ 97 ∷ 108 ∷ 115 ∷ 101 ∷ 10 ∷ 51 ∷ 44 ∷ 115 ∷ 116 ∷ 97 ∷ 108 ∷ 108 ∷ 101 ∷ 100 ∷ 44 ∷ 117 ∷ 110 ∷ 100 ∷ 101 ∷ 102 ∷ 105 ∷ 110 ∷ 101 ∷ 100 ∷ 44 ∷ 102 ∷ 97 ∷ 108 ∷ 115 ∷ 101 ∷ 10 ∷ [];
      verdicts = (0, gives is_true) ∷ (1, gives is_false) ∷ (2, gives is_false) ∷ (3, gives is_true) ∷ (4, gives is-undefined) ∷ (5, gives is_false) ∷ (6, gives is-undefined) ∷ (7, gives is_false) ∷ [];
      answers = asks 0 false T true ∷ asks 0 false TU true ∷ asks 0 true T false ∷ asks 0 true TU false ∷ asks 2 false T false ∷ asks 2 false TU false ∷ asks 2 true T true ∷ asks 2 true TU true ∷ asks 4 false T false ∷ asks 4 false TU true ∷ asks 4 true T false ∷ asks 4 true TU true ∷ [];
    }

-- name,a / rule,a,a / end
abbrev file_2 : List ℕ
file_2 = 110 ∷ 97 ∷ 109 ∷ 101 ∷ 44 ∷ 97 ∷ 10 ∷ 114 ∷ 117 ∷ 108 ∷ 101 ∷ 44 ∷ 97 ∷ 44 ∷ 97 ∷ 10 ∷ 101 ∷ 110 ∷ 100 ∷ 10 ∷ []

-- 2: lists model,1,1,0,0 / 0,a,false,false
abbrev case_2 : Case
case_2 =
    record {
      calls = load file_2 ∷ [];
      listing = 109 ∷ 111 ∷ 100 ∷ 101 ∷ 108 ∷ 44 ∷ 49 ∷ 44 ∷ 49 ∷ 44 ∷ 48 ∷ 44 ∷ 48 ∷ 10 ∷ 48 ∷ 44 ∷ 97 ∷ 44 ∷ 102 ∷ 97 ∷ 108 ∷ 115 ∷ 101 ∷ 44 ∷ 102 ∷ 97 ∷ 108 ∷ 115 ∷ 101 ∷ 10 ∷ [];
      verdicts = (0, gives is_false) ∷ (1, gives is_false) ∷ [];
      answers = asks 0 false T false ∷ asks 0 false TU false ∷ asks 0 true T true ∷ asks 0 true TU true ∷ [];
    }

-- name,a / rule,a,~a / end
abbrev file_3 : List ℕ
file_3 = 110 ∷ 97 ∷ 109 ∷ 101 ∷ 44 ∷ 97 ∷ 10 ∷ 114 ∷ 117 ∷ 108 ∷ 101 ∷ 44 ∷ 97 ∷ 44 ∷ 126 ∷ 97 ∷ 10 ∷ 101 ∷ 110 ∷ 100 ∷ 10 ∷ []

-- 3: lists model,1,1,0,0 / 0,a,undefined,false
abbrev case_3 : Case
case_3 =
    record {
      calls = load file_3 ∷ [];
      listing = 109 ∷ 111 ∷ 100 ∷ 101 ∷ 108 ∷ 44 ∷ 49 ∷ 44 ∷ 49 ∷ 44 ∷ 48 ∷ 44 ∷ 48 ∷ 10 ∷ 48 ∷ 44 ∷ 97 ∷ 44 ∷ 117 ∷ 110 ∷ 100 ∷ 101 ∷ 102 ∷ 105 ∷ 110 ∷ 101 ∷ 100 ∷ 44 ∷ 102 ∷ 97 ∷ 108 ∷ 115 ∷ 101 ∷ 10 ∷ [];
      verdicts = (0, gives is-undefined) ∷ (1, gives is_false) ∷ [];
      answers = asks 0 false T false ∷ asks 0 false TU true ∷ asks 0 true T false ∷ asks 0 true TU true ∷ asks 1 false T false ∷ asks 1 false TU false ∷ asks 1 true T true ∷ asks 1 true TU true ∷ [];
    }

-- name,a / rule,a / rule,-a / end
abbrev file_4 : List ℕ
file_4 = 110 ∷ 97 ∷ 109 ∷ 101 ∷ 44 ∷ 97 ∷ 10 ∷ 114 ∷ 117 ∷ 108 ∷ 101 ∷ 44 ∷ 97 ∷ 10 ∷ 114 ∷ 117 ∷ 108 ∷ 101 ∷ 44 ∷ 45 ∷ 97 ∷ 10 ∷ 101 ∷ 110 ∷ 100 ∷ 10 ∷ []

-- 4: lists contradiction,1,2,0,1,a / 0,a,contradictory,contradictory
abbrev case_4 : Case
case_4 =
    record {
      calls = load file_4 ∷ [];
      listing = 99 ∷ 111 ∷ 110 ∷ 116 ∷ 114 ∷ 97 ∷ 100 ∷ 105 ∷ 99 ∷ 116 ∷ 105 ∷ 111 ∷ 110 ∷ 44 ∷ 49 ∷ 44 ∷ 50 ∷ 44 ∷ 48 ∷ 44 ∷ 49 ∷ 44 ∷ 97 ∷ 10 ∷ 48 ∷ 44 ∷ 97 ∷ 44 ∷ 99 ∷ 111 ∷ 110 ∷ 116 ∷ 114 ∷ 97 ∷ 100 ∷ 105 ∷ 99 ∷ 116 ∷ 111 ∷ 114 ∷ 121 ∷ 44 ∷ 99 ∷ 111 ∷ 110 ∷ 116 ∷ 114 ∷ 97 ∷ 100 ∷ 105 ∷ 99 ∷ 116 ∷ 111 ∷ 114 ∷ 121 ∷ 10 ∷ [];
      verdicts = (0, refused 24) ∷ (1, refused 24) ∷ [];
      answers = asks 0 false T true ∷ asks 0 false TU false ∷ asks 0 true T true ∷ asks 0 true TU false ∷ [];
    }

-- name,a / name,b / rule,a,~b / rule,b,~a / rule,-a / end
abbrev file_5 : List ℕ
file_5 = 110 ∷ 97 ∷ 109 ∷ 101 ∷ 44 ∷ 97 ∷ 10 ∷ 110 ∷ 97 ∷ 109 ∷ 101 ∷ 44 ∷ 98 ∷ 10 ∷ 114 ∷ 117 ∷ 108 ∷ 101 ∷ 44 ∷ 97 ∷ 44 ∷ 126 ∷ 98 ∷ 10 ∷ 114 ∷ 117 ∷ 108 ∷ 101 ∷ 44 ∷ 98 ∷ 44 ∷ 126 ∷ 97 ∷ 10 ∷ 114 ∷ 117 ∷ 108 ∷ 101 ∷ 44 ∷ 45 ∷ 97 ∷ 10 ∷ 101 ∷ 110 ∷ 100 ∷ 10 ∷ []

-- 5: lists model,2,3,0,2 / 0,a,false,true / 1,b,true,false
abbrev case_5 : Case
case_5 =
    record {
      calls = load file_5 ∷ [];
      listing = 109 ∷ 111 ∷ 100 ∷ 101 ∷ 108 ∷ 44 ∷ 50 ∷ 44 ∷ 51 ∷ 44 ∷ 48 ∷ 44 ∷ 50 ∷ 10 ∷ 48 ∷ 44 ∷ 97 ∷ 44 ∷ 102 ∷ 97 ∷ 108 ∷ 115 ∷ 101 ∷ 44 ∷ 116 ∷ 114 ∷ 117 ∷ 101 ∷ 10 ∷ 49 ∷ 44 ∷ 98 ∷ 44 ∷ 116 ∷ 114 ∷ 117 ∷ 101 ∷ 44 ∷ 102 ∷ 97 ∷ 108 ∷ 115 ∷ 101 ∷ 10 ∷ [];
      verdicts = (0, gives is_false) ∷ (1, gives is_true) ∷ (2, gives is_true) ∷ (3, gives is_false) ∷ [];
      answers = asks 0 false T false ∷ asks 0 false TU false ∷ asks 0 true T true ∷ asks 0 true TU true ∷ asks 2 false T true ∷ asks 2 false TU true ∷ asks 2 true T false ∷ asks 2 true TU false ∷ [];
    }

-- name,f / name,s / name,d / rule,f,s / rule,s,~d / rule,d,~d / rule,-s / end
abbrev file_6 : List ℕ
file_6 = 110 ∷ 97 ∷ 109 ∷ 101 ∷ 44 ∷ 102 ∷ 10 ∷ 110 ∷ 97 ∷ 109 ∷ 101 ∷ 44 ∷ 115 ∷ 10 ∷ 110 ∷ 97 ∷ 109 ∷ 101 ∷ 44 ∷ 100 ∷ 10 ∷ 114 ∷ 117 ∷ 108 ∷ 101 ∷ 44 ∷ 102 ∷ 44 ∷ 115 ∷ 10 ∷ 114 ∷ 117 ∷ 108 ∷ 101 ∷ 44 ∷ 115 ∷ 44 ∷ 126 ∷ 100 ∷ 10 ∷ 114 ∷ 117 ∷ 108 ∷ 101 ∷ 44 ∷ 100 ∷ 44 ∷ 126 ∷ 100 ∷ 10 ∷ 114 ∷ 117 ∷ 108 ∷ 101 ∷ 44 ∷ 45 ∷ 115 ∷ 10 ∷ 101 ∷ 110 ∷ 100 ∷ 10 ∷ []

-- 6: lists model,3,4,0,1 / 0,f,false,false / 1,s,false,true / 2,d,undefined,false
abbrev case_6 : Case
case_6 =
    record {
      calls = load file_6 ∷ [];
      listing = 109 ∷ 111 ∷ 100 ∷ 101 ∷ 108 ∷ 44 ∷ 51 ∷ 44 ∷ 52 ∷ 44 ∷ 48 ∷ 44 ∷ 49 ∷ 10 ∷ 48 ∷ 44 ∷ 102 ∷ 44 ∷ 102 ∷ 97 ∷ 108 ∷ 115 ∷ 101 ∷ 44 ∷ 102 ∷ 97 ∷ 108 ∷ 115 ∷ 101 ∷ 10 ∷ 49 ∷ 44 ∷ 115 ∷ 44 ∷ 102 ∷ 97 ∷ 108 ∷ 115 ∷ 101 ∷ 44 ∷ 116 ∷ 114 ∷ 117 ∷ 101 ∷ 10 ∷ 50 ∷ 44 ∷ 100 ∷ 44 ∷ 117 ∷ 110 ∷ 100 ∷ 101 ∷ 102 ∷ 105 ∷ 110 ∷ 101 ∷ 100 ∷ 44 ∷ 102 ∷ 97 ∷ 108 ∷ 115 ∷ 101 ∷ 10 ∷ [];
      verdicts = (0, gives is_false) ∷ (1, gives is_false) ∷ (2, gives is_false) ∷ (3, gives is_true) ∷ (4, gives is-undefined) ∷ (5, gives is_false) ∷ [];
      answers = asks 0 false T false ∷ asks 0 false TU false ∷ asks 0 true T true ∷ asks 0 true TU true ∷ asks 2 false T false ∷ asks 2 false TU false ∷ asks 2 true T true ∷ asks 2 true TU true ∷ asks 4 false T false ∷ asks 4 false TU true ∷ asks 4 true T false ∷ asks 4 true TU true ∷ [];
    }

-- name,a / name,b / rule,a,~b / end
abbrev file_7 : List ℕ
file_7 = 110 ∷ 97 ∷ 109 ∷ 101 ∷ 44 ∷ 97 ∷ 10 ∷ 110 ∷ 97 ∷ 109 ∷ 101 ∷ 44 ∷ 98 ∷ 10 ∷ 114 ∷ 117 ∷ 108 ∷ 101 ∷ 44 ∷ 97 ∷ 44 ∷ 126 ∷ 98 ∷ 10 ∷ 101 ∷ 110 ∷ 100 ∷ 10 ∷ []

-- 7: lists model,2,1,0,1 / 0,a,true,false / 1,b,false,false
abbrev case_7 : Case
case_7 =
    record {
      calls = load file_7 ∷ [];
      listing = 109 ∷ 111 ∷ 100 ∷ 101 ∷ 108 ∷ 44 ∷ 50 ∷ 44 ∷ 49 ∷ 44 ∷ 48 ∷ 44 ∷ 49 ∷ 10 ∷ 48 ∷ 44 ∷ 97 ∷ 44 ∷ 116 ∷ 114 ∷ 117 ∷ 101 ∷ 44 ∷ 102 ∷ 97 ∷ 108 ∷ 115 ∷ 101 ∷ 10 ∷ 49 ∷ 44 ∷ 98 ∷ 44 ∷ 102 ∷ 97 ∷ 108 ∷ 115 ∷ 101 ∷ 44 ∷ 102 ∷ 97 ∷ 108 ∷ 115 ∷ 101 ∷ 10 ∷ [];
      verdicts = (0, gives is_true) ∷ (1, gives is_false) ∷ (2, gives is_false) ∷ (3, gives is_false) ∷ [];
      answers = asks 0 false T true ∷ asks 0 false TU true ∷ asks 0 true T false ∷ asks 0 true TU false ∷ [];
    }

-- name,a / rule,-a,~a / end
abbrev file_8 : List ℕ
file_8 = 110 ∷ 97 ∷ 109 ∷ 101 ∷ 44 ∷ 97 ∷ 10 ∷ 114 ∷ 117 ∷ 108 ∷ 101 ∷ 44 ∷ 45 ∷ 97 ∷ 44 ∷ 126 ∷ 97 ∷ 10 ∷ 101 ∷ 110 ∷ 100 ∷ 10 ∷ []

-- 8: lists model,1,1,0,1 / 0,a,false,true
abbrev case_8 : Case
case_8 =
    record {
      calls = load file_8 ∷ [];
      listing = 109 ∷ 111 ∷ 100 ∷ 101 ∷ 108 ∷ 44 ∷ 49 ∷ 44 ∷ 49 ∷ 44 ∷ 48 ∷ 44 ∷ 49 ∷ 10 ∷ 48 ∷ 44 ∷ 97 ∷ 44 ∷ 102 ∷ 97 ∷ 108 ∷ 115 ∷ 101 ∷ 44 ∷ 116 ∷ 114 ∷ 117 ∷ 101 ∷ 10 ∷ [];
      verdicts = (0, gives is_false) ∷ (1, gives is_true) ∷ [];
      answers = asks 0 false T false ∷ asks 0 false TU false ∷ asks 0 true T true ∷ asks 0 true TU true ∷ asks 1 false T true ∷ asks 1 false TU true ∷ asks 1 true T false ∷ asks 1 true TU false ∷ [];
    }

-- name,a / rule,a,~-a / rule,-a,~a / end
abbrev file_9 : List ℕ
file_9 = 110 ∷ 97 ∷ 109 ∷ 101 ∷ 44 ∷ 97 ∷ 10 ∷ 114 ∷ 117 ∷ 108 ∷ 101 ∷ 44 ∷ 97 ∷ 44 ∷ 126 ∷ 45 ∷ 97 ∷ 10 ∷ 114 ∷ 117 ∷ 108 ∷ 101 ∷ 44 ∷ 45 ∷ 97 ∷ 44 ∷ 126 ∷ 97 ∷ 10 ∷ 101 ∷ 110 ∷ 100 ∷ 10 ∷ []

-- 9: lists model,1,2,0,0 / 0,a,undefined,undefined
abbrev case_9 : Case
case_9 =
    record {
      calls = load file_9 ∷ [];
      listing = 109 ∷ 111 ∷ 100 ∷ 101 ∷ 108 ∷ 44 ∷ 49 ∷ 44 ∷ 50 ∷ 44 ∷ 48 ∷ 44 ∷ 48 ∷ 10 ∷ 48 ∷ 44 ∷ 97 ∷ 44 ∷ 117 ∷ 110 ∷ 100 ∷ 101 ∷ 102 ∷ 105 ∷ 110 ∷ 101 ∷ 100 ∷ 44 ∷ 117 ∷ 110 ∷ 100 ∷ 101 ∷ 102 ∷ 105 ∷ 110 ∷ 101 ∷ 100 ∷ 10 ∷ [];
      verdicts = (0, gives is-undefined) ∷ (1, gives is-undefined) ∷ [];
      answers = asks 0 false T false ∷ asks 0 false TU true ∷ asks 0 true T false ∷ asks 0 true TU true ∷ asks 1 false T false ∷ asks 1 false TU true ∷ asks 1 true T false ∷ asks 1 true TU true ∷ [];
    }

-- end
abbrev file_10 : List ℕ
file_10 = 101 ∷ 110 ∷ 100 ∷ 10 ∷ []

-- 10: lists model,0,0,0,0
abbrev case_10 : Case
case_10 =
    record {
      calls = load file_10 ∷ [];
      listing = 109 ∷ 111 ∷ 100 ∷ 101 ∷ 108 ∷ 44 ∷ 48 ∷ 44 ∷ 48 ∷ 44 ∷ 48 ∷ 44 ∷ 48 ∷ 10 ∷ [];
      verdicts = [];
      answers = [];
    }

-- a file of no bytes: lists as case 10
abbrev case_no_bytes : Case
case_no_bytes =
    record {
      calls = load [] ∷ [];
      listing = case_10.listing;
      verdicts = [];
      answers = [];
    }

-- 11, put in: lists contradiction,2,3,1,2,a / 0,a,contradictory,contradictory / 1,b,contradictory,contradictory
abbrev case_11_put_in : Case
case_11_put_in =
    record {
      calls = load file_5 ∷ change (PutIn 0) ∷ [];
      listing = 99 ∷ 111 ∷ 110 ∷ 116 ∷ 114 ∷ 97 ∷ 100 ∷ 105 ∷ 99 ∷ 116 ∷ 105 ∷ 111 ∷ 110 ∷ 44 ∷ 50 ∷ 44 ∷ 51 ∷ 44 ∷ 49 ∷ 44 ∷ 50 ∷ 44 ∷ 97 ∷ 10 ∷ 48 ∷ 44 ∷ 97 ∷ 44 ∷ 99 ∷ 111 ∷ 110 ∷ 116 ∷ 114 ∷ 97 ∷ 100 ∷ 105 ∷ 99 ∷ 116 ∷ 111 ∷ 114 ∷ 121 ∷ 44 ∷ 99 ∷ 111 ∷ 110 ∷ 116 ∷ 114 ∷ 97 ∷ 100 ∷ 105 ∷ 99 ∷ 116 ∷ 111 ∷ 114 ∷ 121 ∷ 10 ∷ 49 ∷ 44 ∷ 98 ∷ 44 ∷ 99 ∷ 111 ∷ 110 ∷ 116 ∷ 114 ∷ 97 ∷ 100 ∷ 105 ∷ 99 ∷ 116 ∷ 111 ∷ 114 ∷ 121 ∷ 44 ∷ 99 ∷ 111 ∷ 110 ∷ 116 ∷ 114 ∷ 97 ∷ 100 ∷ 105 ∷ 99 ∷ 116 ∷ 111 ∷ 114 ∷ 121 ∷ 10 ∷ [];
      verdicts = (2, refused 24) ∷ [];
      answers = asks 0 false T true ∷ [];
    }

-- 11, taken out: lists model,2,3,0,2 / 0,a,false,true / 1,b,true,false
abbrev case_11_taken_out : Case
case_11_taken_out =
    record {
      calls = load file_5 ∷ change (PutIn 0) ∷ change (TakeOut 0) ∷ [];
      listing = 109 ∷ 111 ∷ 100 ∷ 101 ∷ 108 ∷ 44 ∷ 50 ∷ 44 ∷ 51 ∷ 44 ∷ 48 ∷ 44 ∷ 50 ∷ 10 ∷ 48 ∷ 44 ∷ 97 ∷ 44 ∷ 102 ∷ 97 ∷ 108 ∷ 115 ∷ 101 ∷ 44 ∷ 116 ∷ 114 ∷ 117 ∷ 101 ∷ 10 ∷ 49 ∷ 44 ∷ 98 ∷ 44 ∷ 116 ∷ 114 ∷ 117 ∷ 101 ∷ 44 ∷ 102 ∷ 97 ∷ 108 ∷ 115 ∷ 101 ∷ 10 ∷ [];
      verdicts = (0, gives is_false) ∷ (1, gives is_true) ∷ (2, gives is_true) ∷ (3, gives is_false) ∷ [];
      answers = asks 0 false T false ∷ asks 0 false TU false ∷ asks 0 true T true ∷ asks 0 true TU true ∷ asks 2 false T true ∷ asks 2 false TU true ∷ asks 2 true T false ∷ asks 2 true TU false ∷ [];
    }

-- name,Brake_Held / name,gear_2 / rule,Gear_2,~BRAKE_HELD / end
abbrev file_capitals : List ℕ
file_capitals = 110 ∷ 97 ∷ 109 ∷ 101 ∷ 44 ∷ 66 ∷ 114 ∷ 97 ∷ 107 ∷ 101 ∷ 95 ∷ 72 ∷ 101 ∷ 108 ∷ 100 ∷ 10 ∷ 110 ∷ 97 ∷ 109 ∷ 101 ∷ 44 ∷ 103 ∷ 101 ∷ 97 ∷ 114 ∷ 95 ∷ 50 ∷ 10 ∷ 114 ∷ 117 ∷ 108 ∷ 101 ∷ 44 ∷ 71 ∷ 101 ∷ 97 ∷ 114 ∷ 95 ∷ 50 ∷ 44 ∷ 126 ∷ 66 ∷ 82 ∷ 65 ∷ 75 ∷ 69 ∷ 95 ∷ 72 ∷ 69 ∷ 76 ∷ 68 ∷ 10 ∷ 101 ∷ 110 ∷ 100 ∷ 10 ∷ []

-- capitals: lists model,2,1,0,1 / 0,Brake_Held,false,false / 1,gear_2,true,false
abbrev case_capitals : Case
case_capitals =
    record {
      calls = load file_capitals ∷ [];
      listing = 109 ∷ 111 ∷ 100 ∷ 101 ∷ 108 ∷ 44 ∷ 50 ∷ 44 ∷ 49 ∷ 44 ∷ 48 ∷ 44 ∷ 49 ∷ 10 ∷ 48 ∷ 44 ∷ 66 ∷ 114 ∷ 97 ∷ 107 ∷ 101 ∷ 95 ∷ 72 ∷ 101 ∷ 108 ∷ 100 ∷ 44 ∷ 102 ∷ 97 ∷ 108 ∷ 115 ∷ 101 ∷ 44 ∷ 102 ∷ 97 ∷ 108 ∷ 115 ∷ 101 ∷ 10 ∷ 49 ∷ 44 ∷ 103 ∷ 101 ∷ 97 ∷ 114 ∷ 95 ∷ 50 ∷ 44 ∷ 116 ∷ 114 ∷ 117 ∷ 101 ∷ 44 ∷ 102 ∷ 97 ∷ 108 ∷ 115 ∷ 101 ∷ 10 ∷ [];
      verdicts = (0, gives is_false) ∷ (1, gives is_false) ∷ (2, gives is_true) ∷ (3, gives is_false) ∷ [];
      answers = asks 0 true T true ∷ asks 2 false T true ∷ asks 2 true TU false ∷ [];
    }

-- name,a / name,b / rule,a / rule,b,~-a / rule,-a,~-b / rule,-b,~a / rule,b,~-b / rule,-a,~a / rule,-b,~b / end
abbrev file_rounds : List ℕ
file_rounds = 110 ∷ 97 ∷ 109 ∷ 101 ∷ 44 ∷ 97 ∷ 10 ∷ 110 ∷ 97 ∷ 109 ∷ 101 ∷ 44 ∷ 98 ∷ 10 ∷ 114 ∷ 117 ∷ 108 ∷ 101 ∷ 44 ∷ 97 ∷ 10 ∷ 114 ∷ 117 ∷ 108 ∷ 101 ∷ 44 ∷ 98 ∷ 44 ∷ 126 ∷ 45 ∷ 97 ∷ 10 ∷ 114 ∷ 117 ∷ 108 ∷ 101 ∷ 44 ∷ 45 ∷ 97 ∷ 44 ∷ 126 ∷ 45 ∷ 98 ∷ 10 ∷ 114 ∷ 117 ∷ 108 ∷ 101 ∷ 44 ∷ 45 ∷ 98 ∷ 44 ∷ 126 ∷ 97 ∷ 10 ∷ 114 ∷ 117 ∷ 108 ∷ 101 ∷ 44 ∷ 98 ∷ 44 ∷ 126 ∷ 45 ∷ 98 ∷ 10 ∷ 114 ∷ 117 ∷ 108 ∷ 101 ∷ 44 ∷ 45 ∷ 97 ∷ 44 ∷ 126 ∷ 97 ∷ 10 ∷ 114 ∷ 117 ∷ 108 ∷ 101 ∷ 44 ∷ 45 ∷ 98 ∷ 44 ∷ 126 ∷ 98 ∷ 10 ∷ 101 ∷ 110 ∷ 100 ∷ 10 ∷ []

-- as many rounds as distinct heads: lists contradiction,2,7,0,4,a / 0,a,contradictory,contradictory / 1,b,contradictory,contradictory
abbrev case_rounds : Case
case_rounds =
    record {
      calls = load file_rounds ∷ [];
      listing = 99 ∷ 111 ∷ 110 ∷ 116 ∷ 114 ∷ 97 ∷ 100 ∷ 105 ∷ 99 ∷ 116 ∷ 105 ∷ 111 ∷ 110 ∷ 44 ∷ 50 ∷ 44 ∷ 55 ∷ 44 ∷ 48 ∷ 44 ∷ 52 ∷ 44 ∷ 97 ∷ 10 ∷ 48 ∷ 44 ∷ 97 ∷ 44 ∷ 99 ∷ 111 ∷ 110 ∷ 116 ∷ 114 ∷ 97 ∷ 100 ∷ 105 ∷ 99 ∷ 116 ∷ 111 ∷ 114 ∷ 121 ∷ 44 ∷ 99 ∷ 111 ∷ 110 ∷ 116 ∷ 114 ∷ 97 ∷ 100 ∷ 105 ∷ 99 ∷ 116 ∷ 111 ∷ 114 ∷ 121 ∷ 10 ∷ 49 ∷ 44 ∷ 98 ∷ 44 ∷ 99 ∷ 111 ∷ 110 ∷ 116 ∷ 114 ∷ 97 ∷ 100 ∷ 105 ∷ 99 ∷ 116 ∷ 111 ∷ 114 ∷ 121 ∷ 44 ∷ 99 ∷ 111 ∷ 110 ∷ 116 ∷ 114 ∷ 97 ∷ 100 ∷ 105 ∷ 99 ∷ 116 ∷ 111 ∷ 114 ∷ 121 ∷ 10 ∷ [];
      verdicts = [];
      answers = [];
    }

-- name,a / name,b / name,c / name,d / rule,a / rule,-a / rule,b,~a / rule,c / rule,a,d / end
abbrev file_one_bad_name : List ℕ
file_one_bad_name = 110 ∷ 97 ∷ 109 ∷ 101 ∷ 44 ∷ 97 ∷ 10 ∷ 110 ∷ 97 ∷ 109 ∷ 101 ∷ 44 ∷ 98 ∷ 10 ∷ 110 ∷ 97 ∷ 109 ∷ 101 ∷ 44 ∷ 99 ∷ 10 ∷ 110 ∷ 97 ∷ 109 ∷ 101 ∷ 44 ∷ 100 ∷ 10 ∷ 114 ∷ 117 ∷ 108 ∷ 101 ∷ 44 ∷ 97 ∷ 10 ∷ 114 ∷ 117 ∷ 108 ∷ 101 ∷ 44 ∷ 45 ∷ 97 ∷ 10 ∷ 114 ∷ 117 ∷ 108 ∷ 101 ∷ 44 ∷ 98 ∷ 44 ∷ 126 ∷ 97 ∷ 10 ∷ 114 ∷ 117 ∷ 108 ∷ 101 ∷ 44 ∷ 99 ∷ 10 ∷ 114 ∷ 117 ∷ 108 ∷ 101 ∷ 44 ∷ 97 ∷ 44 ∷ 100 ∷ 10 ∷ 101 ∷ 110 ∷ 100 ∷ 10 ∷ []

-- one bad name, and one that reaches it: lists contradiction,4,5,0,2,a / 0,a,contradictory,contradictory / 1,b,contradictory,contradictory / 2,c,true,false / 3,d,false,false
abbrev case_one_bad_name : Case
case_one_bad_name =
    record {
      calls = load file_one_bad_name ∷ [];
      listing = 99 ∷ 111 ∷ 110 ∷ 116 ∷ 114 ∷ 97 ∷ 100 ∷ 105 ∷ 99 ∷ 116 ∷ 105 ∷ 111 ∷ 110 ∷ 44 ∷ 52 ∷ 44 ∷ 53 ∷ 44 ∷ 48 ∷ 44 ∷ 50 ∷ 44 ∷ 97 ∷ 10 ∷ 48 ∷ 44 ∷ 97 ∷ 44 ∷ 99 ∷ 111 ∷ 110 ∷ 116 ∷ 114 ∷ 97 ∷ 100 ∷ 105 ∷ 99 ∷ 116 ∷ 111 ∷ 114 ∷ 121 ∷ 44 ∷ 99 ∷ 111 ∷ 110 ∷ 116 ∷ 114 ∷ 97 ∷ 100 ∷ 105 ∷ 99 ∷ 116 ∷ 111 ∷ 114 ∷ 121 ∷ 10 ∷ 49 ∷ 44 ∷ 98 ∷ 44 ∷ 99 ∷ 111 ∷ 110 ∷ 116 ∷ 114 ∷ 97 ∷ 100 ∷ 105 ∷ 99 ∷ 116 ∷ 111 ∷ 114 ∷ 121 ∷ 44 ∷ 99 ∷ 111 ∷ 110 ∷ 116 ∷ 114 ∷ 97 ∷ 100 ∷ 105 ∷ 99 ∷ 116 ∷ 111 ∷ 114 ∷ 121 ∷ 10 ∷ 50 ∷ 44 ∷ 99 ∷ 44 ∷ 116 ∷ 114 ∷ 117 ∷ 101 ∷ 44 ∷ 102 ∷ 97 ∷ 108 ∷ 115 ∷ 101 ∷ 10 ∷ 51 ∷ 44 ∷ 100 ∷ 44 ∷ 102 ∷ 97 ∷ 108 ∷ 115 ∷ 101 ∷ 44 ∷ 102 ∷ 97 ∷ 108 ∷ 115 ∷ 101 ∷ 10 ∷ [];
      verdicts = (0, refused 24) ∷ (2, refused 24) ∷ (3, refused 24) ∷ (4, gives is_true) ∷ (5, gives is_false) ∷ (6, gives is_false) ∷ (8, refused 21) ∷ [];
      answers = asks 0 false T true ∷ asks 0 true T true ∷ asks 2 false T true ∷ asks 2 false TU false ∷ asks 4 false T true ∷ [];
    }

abbrev pub cases : List Case
cases =
    case_1 ∷ case_2 ∷ case_3 ∷ case_4 ∷ case_5 ∷ case_6 ∷ case_7 ∷ case_8 ∷ case_9 ∷ case_10 ∷ case_no_bytes ∷ case_11_put_in ∷ case_11_taken_out ∷ case_capitals ∷ case_rounds ∷ case_one_bad_name ∷ []
