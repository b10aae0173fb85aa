-- Texts cut at a byte: what stands before it, and lines.
use Rattle.std.proofs.Common.{◌≡◌, ℕ, ◌+◌, ◌<◌, ◌≤◌, Bool, true, false, cond, not, ◌||◌, ltb, List, [], ◌∷◌, ◌++◌, length, get_or, take, min, Some, None, sym, refl, ap, ◌∙◌, subst, append_assoc, append-nil, arith}
use Rattle.std.specs.List.{AllByRecursion, before_first, onto_first, IsFirstMatchOrLen, position_or_len}
use Rattle.std.specs.Fn.{CalledAt, ComputesKey}
use Rattle.std.specs.Option.{unwrap_or}
use Rattle.std.proofs.lemmas.Fn.{always_returns_same}
use denote.Param.Members.{Mut}
use denote.Ref.{Bor}
use Rattle.std.proofs.lemmas.List.{nil_from_length, take_all, take_more}
use Rattle.std.proofs.lemmas.List.Sums.{prefix_len-le-length, take_while-cons}
use Rattle.std.proofs.ByRecursion.{all_from_every}
use Rattle.std.proofs.lemmas.Grind.{common_steps}
use Rattle.std.proofs.lemmas.Bool.Decides.{nat_tests}
use Rattle.days.specs.Words.{hash, lines, newline, words}

-- cases by a test
abbrev pub split : {P : Type 0} (b : Bool) → (b ≡ true → P) → (b ≡ false → P) → P
split true f g = f refl
split false f g = g refl

-- the place of the first element that passes, or else the length
pub found_or_len : (p : ℕ → Bool) (xs : List ℕ) → unwrap_or (cond (ltb (position_or_len p xs) (length xs)) (Some (position_or_len p xs)) None) (length xs) ≡ position_or_len p xs
found_or_len p xs = let l = prefix_len-le-length (λ b. not (p b)) xs in grind (arith, nat_tests)

pub before_stop : (p : ℕ → Bool) (b : ℕ) (bs : List ℕ) → p b ≡ true → before_first p (b ∷ bs) ≡ []
before_stop p b bs o = take_while-cons (λ c. not (p c)) b bs ∙ simp o

pub before_on : (p : ℕ → Bool) (b : ℕ) (bs : List ℕ) → p b ≡ false → before_first p (b ∷ bs) ≡ b ∷ before_first p bs
before_on p b bs o = take_while-cons (λ c. not (p c)) b bs ∙ simp o

-- what stands before the first of two bytes
pub code_cut : (xs : List ℕ) → before_first (λ b. hash b || newline b) xs ≡ before_first hash (before_first newline xs)
code_cut [] = refl
code_cut (b ∷ bs) =
    let either = take_while-cons (λ c. not (hash c || newline c)) b bs in
    let inner = take_while-cons (λ c. not (newline c)) b bs in
    let outer = take_while-cons (λ c. not (hash c)) b (before_first newline bs) in
    let rest = code_cut bs in
    grind (arith, nat_tests)

pub words_nil : words [] ≡ []
unfolding words
words_nil = refl

-- a line ends at its newline, or with the text
pub lines_cut : (line rest : List ℕ) → AllByRecursion (λ b. newline b ≡ false) line → lines (line ++ 10 ∷ rest) ≡ line ∷ lines rest
unfolding lines
lines_cut [] rest a = refl
lines_cut (b ∷ bs) rest a = simp a.0 (ap (onto_first b) (lines_cut bs rest a.1))

pub lines_last : (b : ℕ) (bs : List ℕ) → AllByRecursion (λ b. newline b ≡ false) (b ∷ bs) → lines (b ∷ bs) ≡ (b ∷ bs) ∷ []
unfolding lines
lines_last b [] a = simp a.0
lines_last b (c ∷ cs) a = simp a.0 (ap (onto_first b) (lines_last c cs a.1))

lines_all : (xs : List ℕ) → AllByRecursion (λ b. newline b ≡ false) xs → 0 < length xs → lines xs ≡ xs ∷ []
lines_all [] a some = absurd (omega arith)
lines_all (b ∷ bs) a some = lines_last b bs a

pub lines_nil : lines [] ≡ []
unfolding lines
lines_nil = refl

pub before_all : (p : ℕ → Bool) (xs : List ℕ) → AllByRecursion (λ b. p b ≡ false) xs → before_first p xs ≡ xs
before_all p [] a = refl
before_all p (b ∷ bs) a = before_on p b bs a.0 ∙ ap (λ (l : List ℕ). b ∷ l) (before_all p bs a.1)

before_cut : (xs rest : List ℕ) → AllByRecursion (λ b. newline b ≡ false) xs → before_first newline (xs ++ 10 ∷ rest) ≡ xs
before_cut [] rest a = refl
before_cut (b ∷ bs) rest a = before_on newline b (bs ++ 10 ∷ rest) a.0 ∙ ap (λ (l : List ℕ). b ∷ l) (before_cut bs rest a.1)

-- a piece that ends at place i
cut_here : (xs x rest : List ℕ) (i : ℕ) → xs ≡ x ++ rest → length x ≡ min (i + 1) (length xs) → IsFirstMatchOrLen newline xs i → i < length xs → lines xs ≡ before_first newline x ∷ lines rest
cut_here xs x rest i e n first inside =
    let size : length x ≡ i + 1 = grind arith in
    let w = take i x in
    let none : AllByRecursion (λ b. newline b ≡ false) w =
    all_from_every (λ b. newline b ≡ false) w (λ k d low high. let f = first.0 k d low (grind (arith, common_steps)) in grind (arith, common_steps)) in
    let ends : newline (get_or x i 0) ≡ true = let f = first.1 inside 0 in grind (arith, common_steps) in
    let ten : get_or x i 0 ≡ 10 = grind (arith, nat_tests) in
    let seen : x ≡ w ++ 10 ∷ [] = sym (take_all (i + 1) x (grind arith)) ∙ take_more x i 0 (grind arith) ∙ ap (λ (b : ℕ). w ++ b ∷ []) ten in
    let whole : xs ≡ w ++ 10 ∷ rest = e ∙ ap (λ (l : List ℕ). l ++ rest) seen ∙ append_assoc w (10 ∷ []) rest in
    ap lines whole ∙ lines_cut w rest none ∙ ap (λ (l : List ℕ). l ∷ lines rest) (sym (ap (before_first newline) seen ∙ before_cut w [] none))

cut_end : (xs x rest : List ℕ) (i : ℕ) → xs ≡ x ++ rest → length x ≡ min (i + 1) (length xs) → IsFirstMatchOrLen newline xs i → length xs ≤ i → 0 < length xs → lines xs ≡ before_first newline x ∷ lines rest
cut_end xs x rest i e n first outside some =
    let size : length rest ≡ 0 = grind (arith, common_steps, ap length e) in
    let empty : rest ≡ [] = nil_from_length rest size in
    let same : xs ≡ x = e ∙ ap (λ (l : List ℕ). x ++ l) empty ∙ append-nil x in
    let none : AllByRecursion (λ b. newline b ≡ false) x =
    subst (AllByRecursion (λ b. newline b ≡ false)) same (all_from_every (λ b. newline b ≡ false) xs (λ k d low high. first.0 k d low (grind arith))) in
    ap lines same ∙ lines_all x none (subst (λ (l : List ℕ). 0 < length l) same some) ∙ ap (λ (l : List ℕ). l ∷ []) (sym (before_all newline x none)) ∙ ap (λ (ls : List (List ℕ)). before_first newline x ∷ ls) (sym (ap lines empty ∙ lines_nil))

lines_next : (xs x rest : List ℕ) (i : ℕ) → xs ≡ x ++ rest → length x ≡ min (i + 1) (length xs) → IsFirstMatchOrLen newline xs i → 0 < length xs → lines xs ≡ before_first newline x ∷ lines rest
lines_next xs x rest i e n first some =
    split (ltb i (length xs))
    (λ h. cut_here xs x rest i e n first (grind (arith, nat_tests)))
    (λ h. cut_end xs x rest i e n first (grind (arith, nat_tests)) some)

-- a piece that `split_inclusive` gives is the next line with its newline
pub line_taken : {F : Type 0} (g : Mut F (Bor ℕ × Unit {0}) Bool) (f f' : F) (xs x rest : List ℕ) → (xs ≡ x ++ rest) × ((i : ℕ) × (length x ≡ min (i + 1) (length xs)) × ((p : ℕ → Bool) → ComputesKey g p f → ComputesKey g p f' × IsFirstMatchOrLen p xs i)) × (0 < length xs)
    → ((b : ℕ) (r : Bool) (q : F) → CalledAt g f b r q → (q ≡ f) × (r ≡ newline b)) → lines xs ≡ before_first newline x ∷ lines rest
line_taken g f f' xs x rest h tests =
    let computes : ComputesKey g newline f =
    always_returns_same g (λ a r. r ≡ newline a.0.now) f (λ a r q k. let m = tests a.0.now r q (record { shown = a.0; shows = refl; called = k }) in (m.1, m.0)) in
    lines_next xs x rest h.1.0 h.0 h.1.1 (h.1.2 newline computes).1 h.2
