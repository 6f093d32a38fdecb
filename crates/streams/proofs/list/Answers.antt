use Rattle.std.proofs.Common.{rules, ◌≡◌, ℕ, List, ◌∙◌, subst, take, replicate}
use Rattle.std.proofs.lemmas.List.{length-replicate}
use Rattle.std.specs.Io.KnownBytes.{Appends}
use Rattle.display.specs.Listing.{listing_of}
use Rattle.display.specs.Numbers.{listed_length}
use Rattle.display.proofs.LongestLaws.{listing_whole}
use Rattle.streams.proofs.Whole.{whole, on_ok}
use Rattle.streams.proofs.list.Goals as goal

-- what is written is the listing of what was read, and that is the listing of the whole input
pub returns : goal.returns
returns g c =
    let n = c.in_ok-n.n in
    let buf = c.fill.new.buf in
    let listed = c.listing-answer.ensures in
    let empty : List ℕ = replicate 3436 0 in
    let printed : c.front.result.now ≡ listing_of (take n buf) =
    c.front.ensures ∙ (λ i. take (listed_length (listed.value i)) (listed.out_after i)) ∙ listing_whole (take n buf) empty (length-replicate {A = ℕ} 3436 0) in
    on_ok c.write_all.result c.write_all.ensures.bytes
    (λ written. whole _ _ buf n (Appends _ _) (search rules) (search rules) c.in_ok-n.ensures.bytes c.in_ok-n.ensures.end (subst (Appends _ _) printed written))
