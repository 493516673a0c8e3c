-- What stands on a page that was empty is the listing that was added.
use Rattle.std.proofs.Common.{◌≡◌, ◌∙◌, ℕ, List, [], ◌++◌, true, false, ap, subst, sym}
use Rattle.std.specs.Prelude.{Ok}
use Rattle.certificate.specs.Bounds.{Certificate, One}
use Rattle.certificate.specs.Growth.{empty}
use Rattle.certificate_text.specs.Readings.{certificate_of_text}
use Rattle.explain.specs.Listing.{Lists}
use Rattle.explain.specs.ListingViews.{AddsSome}
use Rattle.rules.specs.Expansions.{expansion}
use Rattle.task.specs.Plans.{Plan}
use Rattle.task_reader.specs.Reading.{task_of}
use Rattle.texts.specs.declared.pages.Page.{Page}
use Rattle.answers.specs.Listed.{SaysListed, SaysListedWith}

-- what was added to an empty page is all that stands on it
all_added : (Tells : List ℕ → Type 0) (before after : Page) → before.bytes.items ≡ [] → after.is_short ≡ false → AddsSome Tells before after
    → Tells after.bytes.items
all_added Tells before after blank whole adds =
    let added = adds.writes whole in
    subst Tells (sym (added.2 ∙ ap (λ front. front ++ added.0) blank)) added.1

pub listed_alone : (file written : List ℕ) (plan : Plan) (bounds : Certificate) (before after : Page) → task_of file ≡ Ok plan → before.bytes.items ≡ []
    → AddsSome (Lists plan (empty One) bounds false) before after → after.is_short ≡ false → written ≡ after.bytes.items → SaysListed file written
listed_alone file written plan bounds before after is_task blank adds whole is = record {
  plan = plan;
  is_task = is_task;
  bounds = bounds;
  lists = subst (λ (text : List ℕ). Lists plan (empty One) bounds false text) (sym is)
      (all_added (Lists plan (empty One) bounds false) before after blank whole adds);
}

pub listed_with : (file cert written : List ℕ) (plan : Plan) (bounds expanded : Certificate) (before after : Page) → task_of file ≡ Ok plan
    → certificate_of_text cert ≡ Ok bounds → expanded ≡ expansion plan bounds → before.bytes.items ≡ [] → AddsSome (Lists plan expanded expanded true) before after
    → after.is_short ≡ false → written ≡ after.bytes.items → SaysListedWith file cert written
listed_with file cert written plan bounds expanded before after is_task is_bounds is_expanded blank adds whole is = record {
  plan = plan;
  is_task = is_task;
  bounds = bounds;
  is_certificate = is_bounds;
  lists = subst (λ (c : Certificate). Lists plan c c true written) is_expanded
      (subst (λ (text : List ℕ). Lists plan expanded expanded true text) (sym is)
      (all_added (Lists plan expanded expanded true) before after blank whole adds));
}
