-- Rows written one behind the other.
use Rattle.std.proofs.Common.{◌≡◌, ℕ, ◌+◌, ◌*◌, List, [], ◌∷◌, ◌++◌, length, take, drop, sym, ap, ◌∙◌, suc-mul, add_comm, zero-mul, add-one}
use Rattle.std.proofs.lemmas.List.{append_assoc, drop_at, drop-drop, flat_map_more, length-append, take_at}
use Rattle.rows.specs.Rows.{Laws, cells_of}

-- A write of v cells where what has been written ends.
pub write_next : (m v : ℕ) (ps es ts zs : List ℕ) → length ps ≡ m → ts ≡ ps ++ drop m es → take m ts ++ (zs ++ drop (m + v) ts) ≡ (ps ++ zs) ++ drop (m + v) es
write_next m v ps es ts zs long q =
    let behind : drop (m + v) (ps ++ drop m es) ≡ drop (m + v) es =
    sym (drop-drop v m (ps ++ drop m es)) ∙ ap (drop v) (drop_at ps (drop m es) m long) ∙ drop-drop v m es in
    rw (q, behind, take_at ps (drop m es) m long) (sym (append_assoc ps zs (drop (m + v) es)))

module _ {R : Type 0} {w : ℕ} {made : List ℕ → R} {cells : R → List ℕ} (laws : Laws w made cells) where
  pub length_cells : (rs : List R) → length (cells_of cells rs) ≡ length rs * w
  length_cells [] = sym (zero-mul w)
  length_cells (r ∷ rs) = length-append (cells r) (cells_of cells rs) ∙ rw (laws.long r, length_cells rs, suc-mul (length rs) w) (add_comm w (length rs * w))

  -- The rows rs stand in es from its front on.
  abbrev pub Written : List R → ℕ → List ℕ → List ℕ → Type 0
  Written rs k es ts = (k ≡ length rs) × (ts ≡ cells_of cells rs ++ drop (k * w) es)

  pub written_more : (rs : List R) (k : ℕ) (es ts us : List ℕ) (r : R) → Written rs k es ts → us ≡ take (k * w) ts ++ (cells r ++ drop (k * w + w) ts)
      → Written (rs ++ r ∷ []) (k + 1) es us
  written_more rs k es ts us r so stored =
      let long : length (cells_of cells rs) ≡ k * w = length_cells rs ∙ ap (λ n. n * w) (sym so.0) in
      let next : (k + 1) * w ≡ k * w + w = rw (add-one k) (suc-mul k w) in
      let many : k + 1 ≡ length (rs ++ r ∷ []) = ap (λ n. n + 1) so.0 ∙ sym (length-append rs (r ∷ [])) in
      (many, stored ∙ write_next (k * w) w (cells_of cells rs) es ts (cells r) long so.1 ∙ rw next (ap (λ l. l ++ drop (k * w + w) es) (flat_map_more cells [] rs r)))
