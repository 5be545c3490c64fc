-- What a node holds.
use Rattle.std.specs.Prelude.{ℕ}
use Rattle.acme_tree.specs.declared.node.Node.{Node}
use Rattle.acme_tree.specs.declared.node.Node.TheVariants.{Root, Cons, ConsCtl, Index, Label, NewDir, Window, File}
use Rattle.acme_tree.specs.declared.node.Node.TheVariants.{PlumbRoot, Send, Rules, Port, Log, Jobs}
use Rattle.acme_tree.specs.declared.node.WinFile.{WinFile}
use Rattle.acme_tree.specs.declared.node.WinFile.TheVariants.{Addr, Body, Ctl, Data, Errors, Event, Tag, Xdata}
use Rattle.acme_watch.specs.declared.types.WatchFile.TheVariants as watch
use Rattle.core_fids.specs.declared.content.Content.{Content}
use Rattle.core_fids.specs.declared.content.Content.TheVariants as content

-- what a window's file holds
abbrev pub file_content : ℕ → WinFile → Content
file_content w Addr = content.AddrText w
file_content w Body = content.BodyText w
file_content w Ctl = content.CtlText w
file_content w Data = content.DataOf w
file_content w Errors = content.ErrorsOf w
file_content w Event = content.EventsOf w
file_content w Tag = content.TagText w
file_content w Xdata = content.XdataOf w

-- `cons`, `consctl` and `label` read as empty
abbrev pub content_of : Node → Content
content_of Root = content.Directory
content_of Cons = content.ConsErrors
content_of ConsCtl = content.Empty
content_of Index = content.IndexText
content_of Label = content.Empty
content_of NewDir = content.Directory
content_of (Window w) = content.Directory
content_of (File w file) = file_content w file
content_of PlumbRoot = content.Directory
content_of Send = content.SendText
content_of Rules = content.RulesText
content_of (Port k) = content.PortOf k
content_of Log = content.WatchOf watch.Log
content_of Jobs = content.WatchOf watch.Jobs
