use Rattle.std.proofs.Common.{◌∙◌, [], ap, ap₂, refl}
use Rattle.tor_words.specs.Given.{alone, with_asked}
use Rattle.tor_words.specs.declared.task.Counted.TheVariants.{Listing, Survey}
use Rattle.tor_words.specs.declared.task.Made.TheVariants.{Asks, Ties, Serial}
use Rattle.tor_words.specs.declared.task.Task.TheVariants.{Count, Infer, Sample, Migrate, Resume}
use Rattle.tor_words.proofs.task.alone_in.Goals as goal

pub returns : goal.returns
returns c =
    let resume = ap (λ asked. with_asked asked Resume []) c.has_option.ensures in
    let migrate = ap₂ (λ asked tasks. with_asked asked Migrate tasks) c.has_flag.ensures resume in
    let sample = ap₂ (λ asked tasks. with_asked asked Sample tasks) c.has_option-2.ensures migrate in
    let serial = ap₂ (λ asked tasks. with_asked asked (Infer Serial) tasks) c.has_flag-2.ensures sample in
    let asks = ap₂ (λ asked tasks. with_asked asked (Infer Asks) tasks) c.has_flag-3.ensures serial in
    let ties = ap₂ (λ asked tasks. with_asked asked (Infer Ties) tasks) c.has_flag-4.ensures asks in
    let survey = ap₂ (λ asked tasks. with_asked asked (Count Survey) tasks) c.has_flag-5.ensures ties in
    let listing = ap₂ (λ asked tasks. with_asked asked (Count Listing) tasks) c.has_flag-6.ensures survey in
    c.with_asked.ensures _ (c.with_asked-asked-7.ensures _ (c.with_asked-asked-6.ensures _ (c.with_asked-asked-5.ensures _ (c.with_asked-asked-4.ensures _
    (c.with_asked-asked-3.ensures _ (c.with_asked-asked-2.ensures _ (c.with_asked-asked.ensures [] refl))))))) ∙ ap alone listing
