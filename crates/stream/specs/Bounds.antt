-- HOW MUCH IS EVER LEFT of a text: at most 21 jobs, 16 of them with an open element; names of at most 64 bytes, 16 keys in a tag.
use Rattle.std.specs.Prelude.{◌≡◌, List, [], ◌∷◌, ℕ, suc, ◌+◌, ◌≤◌, Bool, true, leb, length}
use Rattle.lists.specs.Lists.{all}
use Rattle.stream.specs.Jobs
use Rattle.stream.specs.Jobs.{Job}

-- what a job holds: bytes, and so many jobs come of it at once; an open element, of which what is inside may be so deep, with its name,
-- the names of its attributes, and the part of one more; nothing, before the root
pub data Sort : Type 0 where
  loose : (most : ℕ) (bytes : List ℕ) → Sort
  nested : (depth : ℕ) (name : List ℕ) (keys : List (List ℕ)) (key : List ℕ) → Sort
  outer : Sort

unfoldable pub sort : Job → Sort
sort (Jobs.fixed w) = loose 1 w
sort Jobs.blanks = loose 1 []
sort Jobs.some_blanks = loose 1 []
sort Jobs.tail = loose 1 []
sort (Jobs.second_of_three a) = loose 1 []
sort (Jobs.third_of_three a b) = loose 1 []
sort (Jobs.second_of_four a) = loose 2 []
sort Jobs.ampersand = loose 1 []
sort Jobs.ampersand_a = loose 1 []
sort Jobs.remarks = loose 3 []
sort Jobs.remarks_dash = loose 3 []
sort Jobs.raw = loose 3 []
sort Jobs.raw_bracket = loose 3 []
sort Jobs.raw_brackets = loose 3 []
sort Jobs.skipping = loose 3 []
sort Jobs.quoted = loose 3 []
sort (Jobs.valuing b) = loose 3 []
sort (Jobs.naming d n) = nested d n [] []
sort (Jobs.tagging d n l) = nested d n l []
sort (Jobs.gapped d n l) = nested d n l []
sort (Jobs.keying d n l m) = nested d n l m
sort (Jobs.enclosing d n) = nested d n [] []
sort (Jobs.bracket d n) = nested d n [] []
sort (Jobs.brackets d n) = nested d n [] []
sort (Jobs.angle d n) = nested d n [] []
sort (Jobs.angle_mark d n) = nested d n [] []
sort Jobs.trailing = loose 4 []
sort (Jobs.prologue t) = outer
sort (Jobs.prologue_angle t) = outer
sort (Jobs.prologue_mark t) = outer
sort Jobs.starting = outer
sort Jobs.starting_angle = outer
sort (Jobs.saying v) = loose 2 v
sort Jobs.versioned = loose 7 []
sort Jobs.versioned_blank = loose 7 []

-- jobs in a row before `p` others; open elements among them and `q` others
unfoldable pub jobs : ℕ → List Job → ℕ
jobs p [] = p
jobs p (j ∷ l) = suc (jobs p l)

unfoldable pub held_by : Sort → ℕ → ℕ
held_by (loose h w) q = q
held_by (nested d n l m) q = suc q
held_by outer q = q

unfoldable pub holders : ℕ → List Job → ℕ
holders q [] = q
holders q (j ∷ l) = held_by (sort j) (holders q l)

-- a name is short; the names of a tag's attributes are few and short
unfoldable pub brief : List ℕ → Bool
brief n = leb (length n) 64

pub record TagKeys (l : List (List ℕ)) : Type 0 where
  pub few : length l ≤ 16
  pub each_short : all brief l ≡ true

-- what holds of a job before `p` others, of which `q` have an open element
pub record LooseSuited (h : ℕ) (w : List ℕ) (p q : ℕ) : Type 0 where
  pub short_bytes : length w ≤ 64
  pub one_at_least : 1 ≤ h
  pub jobs_fit : h + p ≤ 21
  pub shallow : q ≤ 16

-- the depth that is left is known by the number of open elements
pub record NestedSuited (d : ℕ) (n : List ℕ) (l : List (List ℕ)) (m : List ℕ) (p q : ℕ) : Type 0 where
  pub short_name : length n ≤ 64
  pub short_key : length m ≤ 64
  pub tag_keys : TagKeys l
  pub jobs_fit : 5 + (d + p) ≤ 21
  pub left_deep : suc d + q ≡ 16

pub record OuterSuited (p q : ℕ) : Type 0 where
  pub jobs_fit : 20 + p ≤ 21
  pub none_open : q ≡ 0

unfoldable pub Suited : Sort → ℕ → ℕ → Type 0
Suited (loose h w) p q = LooseSuited h w p q
Suited (nested d n l m) p q = NestedSuited d n l m p q
Suited outer p q = OuterSuited p q

-- this of all jobs in a row, before `p` others, of which `q` have an open element
pub data InRow (p q : ℕ) : List Job → Type 0 where
  row_none : InRow p q []
  row_more : {j : Job} {l : List Job} → Suited (sort j) (jobs p l) (holders q l) → InRow p q l → InRow p q (j ∷ l)

-- all that is left of a text
pub record Limited (l : List Job) : Type 0 where
  pub jobs_few : length l ≤ 21
  pub holders_few : holders 0 l ≤ 16
  pub each_suited : InRow 0 0 l
