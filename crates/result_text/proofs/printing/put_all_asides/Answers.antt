use Rattle.std.proofs.Common.{sym}
use Rattle.std.proofs.lemmas.List.{append-nil}
use Rattle.result_text.specs.declared.line.Version.TheVariants as version
use Rattle.tor_io.proofs.Putting.{puts_as, puts_then}
use Rattle.result_text.proofs.printing.put_all_asides.Goals as goal

pub returns : goal.returns
returns g c = puts_then (c.put_aside.ensures version.One) (puts_then (c.put_aside-2.ensures version.One) (puts_then (c.put_aside-3.ensures version.One) (puts_then (c.put_aside-4.ensures version.One) (puts_then (c.put_aside-5.ensures version.One) (puts_then (c.put_aside-6.ensures version.One) (puts_as (c.put_aside-7.ensures version.One) (sym (append-nil _))))))))
