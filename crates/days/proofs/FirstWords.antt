-- The first word of a text, and the words behind it.
use Rattle.std.proofs.Common.{◌≡◌, ℕ, suc, ◌+◌, ◌-◌, ◌<◌, ◌≤◌, Bool, true, false, cond, not, ltb, List, [], ◌∷◌, ◌++◌, map, append_assoc, length, drop, take, filter, Some, None, sym, refl, ap, ◌∙◌, arith}
use Rattle.std.specs.List.{before_first, onto_first, position_or_len, slice_split}
use Rattle.std.proofs.lemmas.List.Splits.{slice_split-cons_no, slice_split-cons_yes}
use Rattle.std.proofs.lemmas.List.{drop_all, map-append}
use Rattle.std.proofs.lemmas.Bool.Decides.{nat_tests}
use Rattle.days.specs.Words.{blank, filled, most_words, words}
use Rattle.days.proofs.Splitting.{before_on, before_stop, split, words_nil}

-- a blank at the front is none of the words
words_blank : (b : ℕ) (bs : List ℕ) → blank b ≡ true → words (b ∷ bs) ≡ words bs
unfolding words
words_blank b bs o = ap (filter filled) (slice_split-cons_yes blank b bs o)

-- the place of the first element that passes is one further on, or here
passed : (p : ℕ → Bool) (b : ℕ) (bs : List ℕ) → p b ≡ false → position_or_len p (b ∷ bs) ≡ suc (position_or_len p bs)
passed p b bs o = simp o (omega arith)

stopped : (p : ℕ → Bool) (b : ℕ) (bs : List ℕ) → p b ≡ true → position_or_len p (b ∷ bs) ≡ 0
stopped p b bs o = simp o

-- blanks at the front are passed
pub words_from : (xs : List ℕ) → words xs ≡ words (drop (position_or_len (λ b. not (blank b)) xs) xs)
words_from [] = refl
words_from (b ∷ bs) =
    split (blank b)
    (λ o. words_blank b bs o ∙ words_from bs ∙ ap (λ (n : ℕ). words (drop n (b ∷ bs))) (sym (passed (λ c. not (blank c)) b bs (ap not o))))
    (λ o. ap (λ (n : ℕ). words (drop n (b ∷ bs))) (sym (stopped (λ c. not (blank c)) b bs (ap not o))))

-- the first part of a text is what stands before its first blank
record Parts (xs : List ℕ) : Type 0 where
  others : List (List ℕ)
  cut : slice_split blank xs ≡ before_first blank xs ∷ others
  behind : filter filled others ≡ words (drop (position_or_len blank xs) xs)

parts : (xs : List ℕ) → Parts xs
unfolding words
parts [] = record { others = []; cut = refl; behind = refl }
parts (b ∷ bs) =
    let ih = parts bs in
    split (blank b)
    (λ o. record {
      others = slice_split blank bs;
      cut = slice_split-cons_yes blank b bs o ∙ ap (λ (l : List ℕ). l ∷ slice_split blank bs) (sym (before_stop blank b bs o));
      behind = sym (words_blank b bs o) ∙ ap (λ (n : ℕ). words (drop n (b ∷ bs))) (sym (stopped blank b bs o));
    })
    (λ o. record {
      others = ih.others;
      cut = slice_split-cons_no blank b bs o ∙ ap (onto_first b) ih.cut ∙ ap (λ (l : List ℕ). l ∷ ih.others) (sym (before_on blank b bs o));
      behind = ih.behind ∙ ap (λ (n : ℕ). words (drop n (b ∷ bs))) (sym (passed blank b bs o));
    })

-- a text that begins with no blank begins with a word
pub words_here : (b : ℕ) (bs : List ℕ) → blank b ≡ false → words (b ∷ bs) ≡ before_first blank (b ∷ bs) ∷ words (drop (position_or_len blank (b ∷ bs)) (b ∷ bs))
unfolding words
words_here b bs o =
    let p = parts (b ∷ bs) in
    let front = before_on blank b bs o in
    ap (filter filled) (p.cut ∙ ap (λ (l : List ℕ). l ∷ p.others) front) ∙ ap (λ (ws : List (List ℕ)). (b ∷ before_first blank bs) ∷ ws) p.behind ∙ ap (λ (l : List ℕ). l ∷ words (drop (position_or_len blank (b ∷ bs)) (b ∷ bs))) (sym front)

-- what stands where blanks end, or that nothing does
pub record Begins (xs : List ℕ) (n : ℕ) : Type 0 where
  pub first : ℕ
  pub behind : List ℕ
  pub is : drop n xs ≡ first ∷ behind
  pub word : blank first ≡ false

pub begins : (xs : List ℕ) → position_or_len (λ b. not (blank b)) xs < length xs → Begins xs (position_or_len (λ b. not (blank b)) xs)
begins [] inside = absurd (omega (arith, inside))
begins (b ∷ bs) inside =
    split (blank b)
    (λ o. let at = passed (λ c. not (blank c)) b bs (ap not o) in
    let ih = begins bs (omega (arith, inside, at)) in
    record { first = ih.first; behind = ih.behind; is = ap (λ (n : ℕ). drop n (b ∷ bs)) at ∙ ih.is; word = ih.word })
    (λ o. record { first = b; behind = bs; is = ap (λ (n : ℕ). drop n (b ∷ bs)) (stopped (λ c. not (blank c)) b bs (ap not o)); word = o })

-- blanks alone have no word
pub words_none : (xs : List ℕ) → length xs ≤ position_or_len (λ b. not (blank b)) xs → words xs ≡ []
words_none xs past = words_from xs ∙ ap words (drop_all (position_or_len (λ b. not (blank b)) xs) xs past) ∙ words_nil

-- where a search for what is no blank ends, a word begins, up to the next blank
pub first_cut : (xs ys : List ℕ) (n k : ℕ) → cond (ltb (position_or_len (λ b. not (blank b)) xs) (length xs)) (Some (position_or_len (λ b. not (blank b)) xs)) None ≡ Some n
    → ys ≡ drop n xs → k ≡ position_or_len blank ys → words xs ≡ take k ys ∷ words (drop k ys)
first_cut xs ys n k found is stop =
    split (ltb (position_or_len (λ b. not (blank b)) xs) (length xs))
    (λ o.
    let h = begins xs (grind (arith, nat_tests)) in
    let n' : n ≡ position_or_len (λ b. not (blank b)) xs = cc (simp o at found) in
    let front : ys ≡ h.first ∷ h.behind = is ∙ ap (λ (i : ℕ). drop i xs) n' ∙ h.is in
    words_from xs ∙ ap words h.is ∙ words_here h.first h.behind h.word ∙ cc (front, stop))
    (λ o. let z : None ≡ Some n = simp o at found in absurd (cc z))

pub first_none : (xs : List ℕ) → cond (ltb (position_or_len (λ b. not (blank b)) xs) (length xs)) (Some (position_or_len (λ b. not (blank b)) xs)) None ≡ None → words xs ≡ []
first_none xs found =
    split (ltb (position_or_len (λ b. not (blank b)) xs) (length xs))
    (λ o. let z : Some (position_or_len (λ b. not (blank b)) xs) ≡ None = simp o at found in absurd (cc z))
    (λ o. words_none xs (grind (arith, nat_tests)))

-- one word more is found, and there is room for one fewer
pub one_more : {A : Type 0} (f : A → List ℕ) (found : List A) (w : A) (xs ys : List ℕ) (i : ℕ) → i < most_words → words xs ≡ f w ∷ words ys
    → map f (found ++ w ∷ []) ++ take (most_words - (i + 1)) (words ys) ≡ map f found ++ take (most_words - i) (words xs)
one_more f found w xs ys i room next =
    let fewer : most_words - i ≡ suc (most_words - (i + 1)) = omega (arith, room) in
    ap (λ (l : List (List ℕ)). l ++ take (most_words - (i + 1)) (words ys)) (map-append f found (w ∷ []))
    ∙ append_assoc (map f found) (f w ∷ []) (take (most_words - (i + 1)) (words ys))
    ∙ ap (λ (l : List (List ℕ)). map f found ++ l) (sym (ap (λ (n : ℕ). take n (words xs)) fewer ∙ ap (take (suc (most_words - (i + 1)))) next))
