-- Commands done one after the other at the front of bytes that may go on.
use Rattle.std.proofs.Common.{◌≡◌, ℕ, ◌+◌, ◌-◌, ◌≤◌, List, [], ◌∷◌, ◌++◌, length, drop, append-nil, length-drop, sym, ap, ◌∙◌, arith}
use Rattle.std.proofs.lemmas.List.{drop-drop}
use Rattle.command.specs.declared.Command.{Command}
use Rattle.feed.specs.Commands.{IsFront}
use Rattle.feed.specs.Files.{commands, unread}
use Rattle.feed.proofs.Cutting.{commands_more, none_commands}

-- These bytes are the last of those.
pub record IsTail (bs rest : List ℕ) : Type 0 where
  pub within : length rest ≤ length bs
  pub same : rest ≡ drop (length bs - length rest) bs

pub tail_more : (bs now rest : List ℕ) (c : Command) → IsTail bs now → IsFront now c rest → IsTail bs rest
tail_more bs now rest c t f = record {
  within = omega (arith, t.within, f.shorter);
  same =
      let n : length bs - length rest ≡ (length bs - length now) + (length now - length rest) = omega (arith, t.within, f.shorter) in
      f.behind ∙ ap (drop (length now - length rest)) t.same ∙ drop-drop (length now - length rest) (length bs - length now) bs ∙ ap (λ k. drop k bs) (sym n);
}

-- One command more is done: text and what is to come are together what they were.
pub text_more : {S : Type 0} (prints : S → List Command → List ℕ) (first s t : S) (start before after bs now rest : List ℕ) (c : Command)
    → IsFront now c rest → ((cs : List Command) → after ++ prints t cs ≡ before ++ prints s (c ∷ cs))
    → ((more : List ℕ) → before ++ prints s (commands (now ++ more)) ≡ start ++ prints first (commands (bs ++ more)))
    → (more : List ℕ) → after ++ prints t (commands (rest ++ more)) ≡ start ++ prints first (commands (bs ++ more))
text_more prints first s t start before after bs now rest c f one so_far more =
    one (commands (rest ++ more)) ∙ ap (λ cs. before ++ prints s cs) (sym (commands_more now more c rest f)) ∙ so_far more

-- Where the bytes do not go on, what is left of them prints nothing, and is not read.
pub whole_text : {S : Type 0} (prints : S → List Command → List ℕ) (s t : S) (n : ℕ) (bs text : List ℕ) → unread (drop n bs) ≡ length (drop n bs)
    → ((more : List ℕ) → text ++ prints t (commands (drop n bs ++ more)) ≡ prints s (commands (bs ++ more))) → text ++ prints t [] ≡ prints s (commands bs)
whole_text prints s t n bs text none so_far =
    ap (λ cs. text ++ prints t cs) (sym (none_commands (drop n bs) none)) ∙ so_far [] ∙ ap (λ l. prints s (commands l)) (append-nil bs)

pub whole_unread : (n : ℕ) (bs : List ℕ) → n ≤ length bs → unread (drop n bs) ≡ length (drop n bs)
    → ((more : List ℕ) → unread (drop n bs ++ more) ≡ unread (bs ++ more)) → length bs - n ≡ unread bs
whole_unread n bs within none so_far = omega (arith, length-drop n bs, none, so_far [], ap unread (append-nil (drop n bs)), ap unread (append-nil bs))
