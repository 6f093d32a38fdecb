-- `listing`: the page has room for every listing, and holds that of the list.
use Rattle.std.proofs.Common.{◌++◌, ◌≡◌, length, ap, ◌∙◌, arith}
use Rattle.display.specs.Listing.{listing_of}
use Rattle.display.proofs.ListingLaws as law
use Rattle.display.proofs.LongestLaws.{longest}
use Rattle.display.proofs.listing.Goals as goal
use Rattle.display.proofs.listing.Goals.{After-text-text}

-- the text on the page
printed : (c : After-text-text) → c.text-text.result.now ≡ listing_of c.args.list.now
printed c = c.text-text.ensures ∙ c.received.ensures ∙ ap (λ d. d ++ listing_of c.args.list.now) c.new-page.ensures

pub received-requires : goal.received-requires
received-requires c = omega (arith, longest c.args.list.now, ap length c.new-page.ensures)

pub returns-then-out-n : goal.returns-then-out-n
returns-then-out-n c =
    let all = law.ends_short _ _ c.args.out.now (printed (goal.at.returns-then-out-n c).After-text-text) c.if-out-n.true in
    record { value = all.0; out_after = all.1 }

pub returns : goal.returns
returns c =
    let text = printed (goal.at.returns c).After-text-text in
    let all = law.ends_done _ _ c.args.out.now text _ c.copy_from_slice.ensures.after c.if-out-n.false in
    record { value = all.0; out_after = all.1 }
