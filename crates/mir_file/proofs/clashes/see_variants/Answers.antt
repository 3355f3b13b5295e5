use Rattle.std.proofs.Common.{◌≡◌, ℕ, ◌||◌, List, ◌∷◌, ◌∙◌, ◌++◌, map, take, codes, ap, sym, subst, append_assoc}
use Rattle.std.proofs.Math.Seq.{take-append_seam}
use Rattle.mir_text.specs.Names.{string_at}
use Rattle.mir_text.specs.NameFaults.{stands_in}
use Rattle.mir_tree.specs.declared.item.VariantText.{VariantText}
use Rattle.mir_resolve.specs.Once.{SameTexts}
use Rattle.mir_resolve.proofs.Making.{later_of, first_left}
use Rattle.mir_file.specs.Clashes.{variant_path, any_stands}
use Rattle.mir_file.proofs.Clashing.{or-assoc, same_step}
use Rattle.mir_file.proofs.clashes.see_variants.Goals as goal

pub variants-preserved : goal.variants-preserved
variants-preserved c =
    let left = c.variants.left.now in
    let item = c.text-item.result in
    let later = later_of left in
    let first : left ≡ item ∷ later = first_left left item c.in-len1-up.len_at_least c.text-item.is in
    let strings = c.args.strings.now in
    let structs = c.args.structs.now in
    let path : List ℕ = c.args.buffer.now in
    let name : List ℕ = string_at strings item.name in
    let f : VariantText → List ℕ = variant_path strings path in
    let put : c.put_variant.new.buffer ≡ path ++ (codes "::" ++ name) =
    c.in_ok-put_variant.ensures ∙ ap (λ l. l ++ (codes "::" ++ name)) c.variants.invariant.front in
    let is : c.as_slice.result.now ≡ f item = c.as_slice.ensures ∙ put ∙ sym (append_assoc path (codes "::") name) in
    let P : List ℕ → Type 0 = λ x. SameTexts c.see_variant.new.variants (x ∷ c.variants.variants) in
    let Q : List VariantText → Type 0 = λ l. SameTexts (map f l ++ c.variants.variants) (map f c.args.texts.now ++ c.args.variants.now) in
    record {
      size = c.variants.invariant.size;
      front = ap (take c.len-len.result) put ∙ ap (λ n. take n (path ++ (codes "::" ++ name))) c.variants.invariant.size ∙ take-append_seam path (codes "::" ++ name);
      taken = ap (λ b. b || any_stands structs (map f later)) (c.any-taken.ensures ∙ ap (λ b. c.variants.taken || b) (c.in_ok-is_struct.ensures.taken ∙ ap (stands_in structs) is))
          ∙ or-assoc c.variants.taken (stands_in structs (f item)) (any_stands structs (map f later))
          ∙ ap (λ l. c.variants.taken || any_stands structs (map f l)) (sym first) ∙ c.variants.invariant.taken;
      seen = same_step (f item) (map f later) c.variants.variants c.see_variant.new.variants _
          (subst P is c.in_ok-is_struct.ensures.seen) (subst Q first c.variants.invariant.seen);
    }
